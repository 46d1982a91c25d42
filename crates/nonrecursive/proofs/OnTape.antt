-- One turn of each loop of a chunk: a sample more is handed on, a pair more hands its value on, read where the samples stand or on the tape.
use mathlib.Core.Path.{◌≡◌, refl, sym, ap, ap₂, ◌∙◌}
use mathlib.Core.List.{List, [], ◌∷◌, ◌++◌, map, map-append, append_assoc, append-nil}
use Prim.Native.Nat.{ℕ, suc, ◌+◌, ◌*◌, ◌≤◌, ◌<◌}
use native.Mathlib.Numerals.{add-one}
use native.Mathlib.Omega.{arith}
use lib.IntN.{ℤ, pos}
use lib.ListN.{length, take, drop, get_or, set, length-set, drop_of_length-le}
use lib.Seq.{take-suc, take-suc-set, take_all, drop-cons, drop-set-lt, drop-drop, get_or-drop, get_or-take, length-take-le}
use mir.Syntax.{w32}
use Rattle.theory.specs.Wrap.{wrap}
use Rattle.nonrecursive.specs.NonrecursiveDecimator.{summed}
use Rattle.nonrecursive.specs.inner.Tape.{pairs}
use Rattle.nonrecursive.proofs.StageByStage.{summed_long}

pub laid_more :
    (tape w : List ℤ) (i : ℕ) (x : ℤ) → i < length tape → i < length w → x ≡ wrap w32 (get_or w i (pos 0))
    → take i tape ≡ map (wrap w32) (take i w) → take (i + 1) (set tape i x) ≡ map (wrap w32) (take (i + 1) w)
laid_more tape w i x h g e so_far =
    let y = get_or w i (pos 0) in
    ap (λ (n : ℕ). take n (set tape i x)) (add-one i)
    ∙ take-suc-set tape i x h
    ∙ ap₂ (λ (p : List ℤ) (z : ℤ). p ++ (z ∷ [])) so_far e
    ∙ sym (map-append (wrap w32) (take i w) (y ∷ []))
    ∙ ap (map (wrap w32)) (sym (ap (λ (n : ℕ). take n w) (add-one i) ∙ take-suc w i (pos 0) g))

-- what holds after i of the pairs of `line`, the first `count` pairs of the tape: their values stand in front, and what is not read yet as it was
pub record Halving (N count : ℕ) (s₀ tape₀ s tape : List ℤ) (at i : ℕ) : Type 0 where
  pub some_pairs : i ≤ count
  pub read : at ≡ i * 2
  pub long : length s ≡ length s₀
  pub same : length tape ≡ length tape₀
  pub ahead : drop at tape ≡ drop at tape₀
  pub state_left : (pairs N s₀ (take (count * 2) tape₀)).state ≡ (pairs N s (drop at (take (count * 2) tape₀))).state
  pub vals_left : (pairs N s₀ (take (count * 2) tape₀)).vals ≡ take i tape ++ (pairs N s (drop at (take (count * 2) tape₀))).vals

module _ (N count : ℕ) (s₀ tape₀ : List ℤ) (inside : count * 2 ≤ length tape₀) where
  abbrev line : List ℤ
  line = take (count * 2) tape₀

  line_long : length line ≡ count * 2
  line_long = length-take-le (count * 2) tape₀ inside

  pub halving_starts : Halving N count s₀ tape₀ s₀ tape₀ 0 0
  halving_starts = record { some_pairs = omega arith; read = refl; long = refl; same = refl; ahead = refl; state_left = refl; vals_left = refl }

  module _ (s tape : List ℤ) (at i : ℕ) (h : Halving N count s₀ tape₀ s tape at i) where
    -- the value at a place that is not read yet
    there : (j : ℕ) → at + j < count * 2 → get_or line (at + j) (pos 0) ≡ get_or tape (at + j) (pos 0)
    there j l =
        get_or-take (count * 2) tape₀ (at + j) (pos 0) l
        ∙ sym (get_or-drop at tape₀ j (pos 0))
        ∙ ap (λ (k : List ℤ). get_or k j (pos 0)) (sym h.ahead)
        ∙ get_or-drop at tape j (pos 0)

    pub halving_more :
        i < count → (a b y : ℤ) (s₂ : List ℤ) → a ≡ get_or tape at (pos 0) → b ≡ get_or tape (at + 1) (pos 0) → s₂ ≡ (summed N (summed N s a).state b).state → y ≡ (summed N (summed N s a).state b).val
        → Halving N count s₀ tape₀ s₂ (set tape i y) (at + 2) (i + 1)
    unfolding pairs
    halving_more l a b y s₂ ea eb es ey =
        let r = h.read in
        let z : at + 0 ≡ at = omega arith in
        let n : suc (suc at) ≡ at + 2 = omega arith in
        let o : suc at ≡ at + 1 = omega arith in
        let first : get_or line at (pos 0) ≡ a = ap (λ (k : ℕ). get_or line k (pos 0)) (sym z) ∙ there 0 (omega arith) ∙ ap (λ (k : ℕ). get_or tape k (pos 0)) z ∙ sym ea in
        let second : get_or line (suc at) (pos 0) ≡ b = ap (λ (k : ℕ). get_or line k (pos 0)) o ∙ there 1 (omega arith) ∙ sym eb in
        let two : drop at line ≡ a ∷ b ∷ drop (at + 2) line =
        drop-cons line at (pos 0) (omega (arith, line_long))
        ∙ ap₂ (λ (u : ℤ) (k : List ℤ). u ∷ k) first
        (drop-cons line (suc at) (pos 0) (omega (arith, line_long)) ∙ ap₂ (λ (u : ℤ) (k : List ℤ). u ∷ k) second (ap (λ (k : ℕ). drop k line) n))
        in
        let q = summed N (summed N s a).state b in
        record {
          some_pairs = omega arith;
          read = omega arith;
          long = ap length es ∙ summed_long N (summed N s a).state b ∙ summed_long N s a ∙ h.long;
          same = length-set tape i y ∙ h.same;
          ahead = drop-set-lt (at + 2) tape i y (omega arith) ∙ sym (drop-drop 2 at tape) ∙ ap (drop 2) h.ahead ∙ drop-drop 2 at tape₀;
          state_left = h.state_left ∙ ap (λ (k : List ℤ). (pairs N s k).state) two ∙ ap (λ (k : List ℤ). (pairs N k (drop (at + 2) line)).state) (sym es);
          vals_left =
              h.vals_left
              ∙ ap (λ (k : List ℤ). take i tape ++ (pairs N s k).vals) two
              ∙ ap₂ (λ (u : ℤ) (k : List ℤ). take i tape ++ (u ∷ (pairs N k (drop (at + 2) line)).vals)) (sym ey) (sym es)
              ∙ sym (append_assoc (take i tape) (y ∷ []) (pairs N s₂ (drop (at + 2) line)).vals)
              ∙ ap (λ (k : List ℤ). k ++ (pairs N s₂ (drop (at + 2) line)).vals) (sym (ap (λ (k : ℕ). take k (set tape i y)) (add-one i) ∙ take-suc-set tape i y (let e = h.same in omega arith)));
        }

    pub halving_done : count ≤ i → (s ≡ (pairs N s₀ line).state) × (take count tape ≡ (pairs N s₀ line).vals)
    unfolding pairs
    halving_done g =
        let r = h.read in
        let m = h.some_pairs in
        let f : length line ≤ at = omega (arith, line_long) in
        let none : drop at line ≡ [] = drop_of_length-le line f in
        let i_is : i ≡ count = omega arith in (
          sym (h.state_left ∙ ap (λ (k : List ℤ). (pairs N s k).state) none),
          sym (h.vals_left ∙ ap (λ (k : List ℤ). take i tape ++ (pairs N s k).vals) none ∙ append-nil (take i tape) ∙ ap (λ (k : ℕ). take k tape) i_is),
        )

-- what holds after i pairs of the values w, which stand elsewhere: what they hand on stands in front of the places
pub record Handing (N : ℕ) (s₀ w : List ℤ) (s dst : List ℤ) (at i : ℕ) : Type 0 where
  pub read : at ≡ 2 * i
  pub places : length w ≡ length dst * 2
  pub state_left : (pairs N s₀ w).state ≡ (pairs N s (drop at w)).state
  pub vals_left : (pairs N s₀ w).vals ≡ take i dst ++ (pairs N s (drop at w)).vals

module _ (N : ℕ) (s₀ w s dst : List ℤ) (at i : ℕ) (h : Handing N s₀ w s dst at i) where
  pub handing_more :
      i < length dst → (a b y : ℤ) (s₂ : List ℤ) → get_or w at (pos 0) ≡ a → get_or w (at + 1) (pos 0) ≡ b → s₂ ≡ (summed N (summed N s a).state b).state
      → y ≡ (summed N (summed N s a).state b).val → Handing N s₀ w s₂ (set dst i y) (at + 2) (i + 1)
  unfolding pairs
  handing_more l a b y s₂ ea eb es ey =
      let r = h.read in
      let p = h.places in
      let n : suc (suc at) ≡ at + 2 = omega arith in
      let o : suc at ≡ at + 1 = omega arith in
      let two : drop at w ≡ a ∷ b ∷ drop (at + 2) w =
      drop-cons w at (pos 0) (omega arith)
      ∙ ap₂ (λ (u : ℤ) (k : List ℤ). u ∷ k) ea
      (drop-cons w (suc at) (pos 0) (omega arith) ∙ ap₂ (λ (u : ℤ) (k : List ℤ). u ∷ k) (ap (λ (k : ℕ). get_or w k (pos 0)) o ∙ eb) (ap (λ (k : ℕ). drop k w) n))
      in
      record {
        read = omega arith;
        places = p ∙ sym (ap (λ (k : ℕ). k * 2) (length-set dst i y));
        state_left = h.state_left ∙ ap (λ (k : List ℤ). (pairs N s k).state) two ∙ ap (λ (k : List ℤ). (pairs N k (drop (at + 2) w)).state) (sym es);
        vals_left =
            h.vals_left
            ∙ ap (λ (k : List ℤ). take i dst ++ (pairs N s k).vals) two
            ∙ ap₂ (λ (u : ℤ) (k : List ℤ). take i dst ++ (u ∷ (pairs N k (drop (at + 2) w)).vals)) (sym ey) (sym es)
            ∙ sym (append_assoc (take i dst) (y ∷ []) (pairs N s₂ (drop (at + 2) w)).vals)
            ∙ ap (λ (k : List ℤ). k ++ (pairs N s₂ (drop (at + 2) w)).vals) (sym (ap (λ (k : ℕ). take k (set dst i y)) (add-one i) ∙ take-suc-set dst i y l));
      }

  pub handing_done : length dst ≤ i → (s ≡ (pairs N s₀ w).state) × (dst ≡ (pairs N s₀ w).vals)
  unfolding pairs
  handing_done g =
      let r = h.read in
      let p = h.places in
      let none : drop at w ≡ [] = drop_of_length-le w (let f : length w ≤ at = omega arith in f) in (
        sym (h.state_left ∙ ap (λ (k : List ℤ). (pairs N s k).state) none),
        sym (h.vals_left ∙ ap (λ (k : List ℤ). take i dst ++ (pairs N s k).vals) none ∙ append-nil (take i dst) ∙ take_all i dst g),
      )
