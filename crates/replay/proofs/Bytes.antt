-- Bytes that two reads took one after the other.
use Rattle.std.proofs.Common.{◌≡◌, ℕ, ◌+◌, ◌*◌, ◌/◌, ◌≤◌, List, ◌++◌, length, take, arith, subst, ap, sym, ◌∙◌, append_assoc, length-take-le}
use Rattle.std.proofs.Math.Seq.{take-append-add}
use Rattle.std.proofs.Math.Nat.{mul-div_cancel}
use Rattle.std.proofs.lemmas.List.{take-append-le, take_all}
use Rattle.std.specs.Prelude.{OnOk, Option, None, Some, Result, Ok, Err}
use Rattle.std.specs.Io.KnownBytes.{Appends, Consumes}
use Rattle.std.proofs.KnownBytes.{Consumes-trans, Appends-trans}
use Rattle.replay.specs.Text.{word_text, words_text, record_text}
use Rattle.replay.proofs.Words.{words_front}
use borrow.Rule.Slice.PartMut.{put_mid, post_of}

pub front : (us ys zs : List ℕ) (d n : ℕ) → length us ≡ d → n ≤ length ys → take (d + n) (us ++ (ys ++ zs)) ≡ us ++ take n ys
front us ys zs d n e h =
    subst (λ m. take (m + n) (us ++ (ys ++ zs)) ≡ us ++ take n ys) e (take-append-add us (ys ++ zs) n ∙ ap (λ w. us ++ w) (take-append-le n ys zs h))

-- the bytes in front and those behind them, of which the first n were read
pub joined : (a b c : Option (List ℕ)) (d k : ℕ) (xs ys : List ℕ) (n : ℕ) → d ≤ length xs → n ≤ length ys
    → Consumes a b (take d xs) → Consumes b c (take n ys) → Consumes a c (take (d + n) (put_mid d k xs ys))
joined None b c d k xs ys n hd hn p q = tt
joined (Some us) None c d k xs ys n hd hn p q = absurd p
joined (Some us) (Some vs) None d k xs ys n hd hn p q = absurd q
joined (Some us) (Some vs) (Some ws) d k xs ys n hd hn p q =
    p ∙ ap (λ w. take d xs ++ w) q ∙ sym (append_assoc (take d xs) (take n ys) ws)
    ∙ ap (λ w. w ++ ws) (sym (front (take d xs) ys (post_of d k xs) d n (length-take-le d xs hd) hn))

-- a header and the words behind it
pub record_of : (a b c : Option (List ℕ)) (header : List ℕ) (got n : ℕ) (text : List ℕ) (words post : List ℕ) (most : ℕ)
    → length (take got header) ≤ 9 → Consumes a b (take got header) → take 9 (take got header) ≡ word_text n 32
    → Consumes b c (take most text) → length text ≤ most → length text ≡ n * 9 → length words ≡ n
    → take (length words * 9) text ≡ words_text (length text / 9) (length words) words
    → Consumes a c (record_text n (words ++ post))
record_of a b c header got n text words post most hg p h q hm ht hw s =
    let front : take got header ≡ word_text n 32 = sym (take_all 9 (take got header) hg) ∙ h in
    let count : length text / 9 ≡ n = ap (λ m. m / 9) ht ∙ mul-div_cancel n (omega arith) in
    let spelled : text ≡ words_text n n words =
    sym (take_all (n * 9) text (omega arith)) ∙ ap (λ m. take (m * 9) text) (sym hw) ∙ s
    ∙ ap (λ m. words_text m (length words) words) count ∙ ap (λ m. words_text n m words) hw in
    let rest : take most text ≡ words_text n n (words ++ post) =
    take_all most text hm ∙ spelled ∙ sym (words_front n n words post (omega arith)) in
    Consumes-trans a b c (word_text n 32) (words_text n n (words ++ post))
    (subst (λ w. Consumes a b w) front p) (subst (λ w. Consumes b c w) rest q)

pub appended_then : {T E : Type 0} (r : Result T E) (a b c : Option (List ℕ)) (xs ys : List ℕ) → Appends a b xs → OnOk r (Appends b c ys)
    → OnOk r (Appends a c (xs ++ ys))
appended_then (Ok x) a b c xs ys p q = Appends-trans a b c xs ys p q
appended_then (Err e) a b c xs ys p q = tt
