-- A digit more of a word, and a word more of a record.
use Rattle.std.proofs.Common.{◌≡◌, ℕ, zero, suc, ◌-◌, ◌+◌, ◌*◌, ◌/◌, ◌^◌, ◌<◌, ◌≤◌, List, [], ◌∷◌, ◌++◌, false, length, length-drop, take, drop, set, get_or, get_or-set_other, get_or-set_same, refl, ap, sym, ◌∙◌, arith, add-one}
use Rattle.std.proofs.Math.Seq.{take-suc, take-add, take-length}
use Rattle.std.proofs.Math.ListN.{get_or-append}
use Rattle.std.proofs.Math.Nat.{pow-suc, pow-le-pow_right}
use Rattle.std.proofs.lemmas.Nat.{div-mul-add, mod-mul-add}
use Rattle.std.specs.Fmt.{digit_glyph}
use Rattle.replay.specs.Text.{hex_digits, separator_of, word_text, words_text}

pub short : (i v : ℕ) → i < 8 → v < 16 ^ i → v < 268435456
short i v hi hv = let m : 16 ^ i ≤ 16 ^ 7 = pow-le-pow_right {n = 16} (omega arith) {i = i} {j = 7} (omega arith) in omega (arith, m)

pub grown : (text : List ℕ) (i v d : ℕ) → i < length text → d < 16 → take i text ≡ hex_digits i v → get_or text i 0 ≡ digit_glyph false d
    → take (suc i) text ≡ hex_digits (suc i) (v * 16 + d)
grown text i v d hi hd e g =
    take-suc text i 0 hi
    ∙ ap (λ w. w ++ get_or text i 0 ∷ []) e
    ∙ ap (λ b. hex_digits i v ++ b ∷ []) g
    ∙ ap (λ x. hex_digits i x ++ digit_glyph false d ∷ []) (sym (div-mul-add v 16 d hd))
    ∙ ap (λ x. hex_digits i ((v * 16 + d) / 16) ++ digit_glyph false x ∷ []) (sym (mod-mul-add v 16 d hd))

pub below : (i v d : ℕ) → v < 16 ^ i → d < 16 → v * 16 + d < 16 ^ suc i
below i v d hv hd = rw pow-suc (omega arith)

pub words_set : (count j i : ℕ) (ws : List ℕ) (x : ℕ) → j ≤ i → words_text count j (set ws i x) ≡ words_text count j ws
words_set count zero i ws x h = refl
words_set count (suc j) i ws x h =
    ap (λ w. w ++ word_text (get_or (set ws i x) j 0) (separator_of j count)) (words_set count j i ws x (omega arith))
    ∙ ap (λ y. words_text count j ws ++ word_text y (separator_of j count)) (get_or-set_other ws i j x 0 (omega arith))

pub words_front : (count j : ℕ) (us vs : List ℕ) → j ≤ length us → words_text count j (us ++ vs) ≡ words_text count j us
words_front count zero us vs h = refl
words_front count (suc j) us vs h =
    ap (λ w. w ++ word_text (get_or (us ++ vs) j 0) (separator_of j count)) (words_front count j us vs (omega arith))
    ∙ ap (λ y. words_text count j us ++ word_text y (separator_of j count)) (get_or-append us vs 0 j (omega arith))

pub behind : (text : List ℕ) (n : ℕ) → take (length text - n) (drop n text) ≡ drop n text
behind text n = ap (λ k. take k (drop n text)) (sym (length-drop n text)) ∙ take-length (drop n text)

pub more : (count i : ℕ) (text ws : List ℕ) (x b : ℕ) → i < length ws → b ≡ separator_of i count → take (i * 9) text ≡ words_text count i ws
    → take 9 (take (length text - i * 9) (drop (i * 9) text)) ≡ word_text x b → take ((i + 1) * 9) text ≡ words_text count (i + 1) (set ws i x)
more count i text ws x b h g e f =
    let m : suc i * 9 ≡ i * 9 + 9 = omega arith in
    rw add-one
    (ap (λ n. take n text) m ∙ take-add (i * 9) 9 text
    ∙ ap (λ w. w ++ take 9 (drop (i * 9) text)) e
    ∙ ap (λ w. words_text count i ws ++ take 9 w) (sym (behind text (i * 9)))
    ∙ ap (λ w. words_text count i ws ++ w) f
    ∙ ap (λ w. w ++ word_text x b) (sym (words_set count i i ws x (omega arith)))
    ∙ ap (λ y. words_text count i (set ws i x) ++ word_text y b) (sym (get_or-set_same ws i x 0 h))
    ∙ ap (λ s. words_text count i (set ws i x) ++ word_text (get_or (set ws i x) i 0) s) g)
