-- A group of values put into a list: in front, or from a place on.
use mathlib.Core.Path.{◌≡◌, sym, ap, ap₂, ◌∙◌}
use mathlib.Core.List.{List, ◌++◌, append-nil, append_assoc}
use Prim.Native.Nat.{ℕ, ◌+◌, ◌-◌, ◌≤◌, min}
use native.Mathlib.Omega.{arith}
use lib.ListN.{length, get_or, take, drop, length-append, length-drop, drop_of_length-le}
use lib.Seq.{length-take-le, take_at, take-add, take-take, take_all, take-append-le, drop_at, drop-drop, take-append-add}
use lib.Ieee.{Float, nan}
use Rattle.theory.specs.Lists.{listed}
use Rattle.q15.proofs.Filling.{listed_take}
use Rattle.linear_phase.specs.inner.Lanes.{put_in_front}
use Rattle.linear_phase.proofs.SideBySide.{rest}

-- all of a list in front of another
put_whole : (w : ℕ) (y s p : List Float) → length y ≡ w → w ≤ length s → p ≡ put_in_front y s → p ≡ y ++ drop w s
unfolding put_in_front
put_whole w y s p long room q =
    let all : min (length y) (length s) ≡ w = omega (arith, long) in
    q
    ∙ ap (λ (k : ℕ). listed k (λ i. get_or y i nan) ++ drop k s) all
    ∙ ap (λ (l : List Float). l ++ drop w s) (listed_take nan w y (omega (arith, long)) ∙ take_all w y (omega (arith, long)))

-- all of a list over another of its length
pub put_exact : (w : ℕ) (y s p : List Float) → length y ≡ w → length s ≡ w → p ≡ put_in_front y s → p ≡ y
put_exact w y s p long room q =
    put_whole w y s p long (omega (arith, room)) q
    ∙ ap (λ (l : List Float). y ++ l) (drop_of_length-le s {i = w} (omega (arith, room)))
    ∙ append-nil y

pub put_first : (w : ℕ) (y d s p : List Float) → y ≡ take w d → w ≤ length d → w ≤ length s → p ≡ put_in_front y s → p ≡ take w d ++ drop w s
put_first w y d s p e h room q = put_whole w y s p (ap length e ∙ length-take-le w d h) room q ∙ ap (λ (l : List Float). l ++ drop w s) e

pub put_from : (w : ℕ) (t y d part : List Float) (k : ℕ) → y ≡ take w d → w ≤ length d → k + w ≤ length t → part ≡ put_in_front y (take (length t - k) (drop k t))
    → take k t ++ (part ++ drop (length t - k) (drop k t)) ≡ take k t ++ (take w d ++ drop (k + w) t)
put_from w t y d part k e h room q =
    let here : part ≡ take w d ++ drop (k + w) t =
    put_first w y d (drop k t) part e h (simp length-drop (omega arith)) (q ∙ ap (put_in_front y) (rest t k))
    ∙ ap (λ (l : List Float). take w d ++ l) (drop-drop w k t) in
    ap₂ {C = List Float} (λ (l r : List Float). take k t ++ (l ++ r)) here (drop_of_length-le (drop k t) {i = length t - k} (omega (arith, length-drop k t)))
    ∙ ap (λ (l : List Float). take k t ++ l) (append-nil (take w d ++ drop (k + w) t))

-- a group in front of a list, and one at its end
pub put_ends : (w n : ℕ) (s y z s₁ part : List Float) → length y ≡ w → length z ≡ w → length s ≡ n → w ≤ n → n ≤ w + w → s₁ ≡ put_in_front y s
    → part ≡ put_in_front z (take (length s₁ - (n - w)) (drop (n - w) s₁)) → take (n - w) s₁ ++ (part ++ drop (length s₁ - (n - w)) (drop (n - w) s₁)) ≡ take (n - w) y ++ z
put_ends w n s y z s₁ part ly lz ls h g e p =
    let whole : s₁ ≡ y ++ drop w s = put_whole w y s s₁ ly (omega (arith, ls)) e in
    let l₁ : length s₁ ≡ n = ap length whole ∙ length-append y (drop w s) ∙ omega (arith, ly, ls, length-drop w s) in
    put_from w s₁ z z part (n - w) (sym (take_all w z (omega (arith, lz)))) (omega (arith, lz)) (omega (arith, l₁)) p
    ∙ ap₂ {C = List Float} ◌++◌ (ap (take (n - w)) whole ∙ take-append-le (n - w) y (drop w s) (omega (arith, ly)))
    (ap₂ {C = List Float} ◌++◌ (take_all w z (omega (arith, lz))) (drop_of_length-le s₁ {i = n - w + w} (omega (arith, l₁))) ∙ append-nil z)

module _ (w : ℕ) (t d : List Float) (k : ℕ) (h : w ≤ length d) (room : k + w ≤ length t) where
  values : length (take w d) ≡ w
  values = length-take-le w d h

  before : length (take k t) ≡ k
  before = length-take-le k t (omega arith)

  pub long_from : length (take k t ++ (take w d ++ drop (k + w) t)) ≡ length t
  long_from =
      length-append (take k t) (take w d ++ drop (k + w) t)
      ∙ omega (arith, before, length-append (take w d) (drop (k + w) t), values, length-drop (k + w) t)

  -- up to the last of them
  pub up_to : take (k + w) (take k t ++ (take w d ++ drop (k + w) t)) ≡ take k t ++ take w d
  up_to =
      ap (take (k + w)) (sym (append_assoc (take k t) (take w d) (drop (k + w) t)))
      ∙ take_at (take k t ++ take w d) (drop (k + w) t) (k + w) (length-append (take k t) (take w d) ∙ omega (arith, before, values))

-- a delay of at most sixteen places and two groups of samples, the second from s on, each put over what is too much of the one before
pub laid_groups : (delay samples t₀ t₁ t₂ t₃ : List Float) (long s n : ℕ) → n ≡ s + 16 → long ≤ 16 → s ≤ 16 → 16 ≤ length delay → s + 16 ≤ length samples → length t₀ ≡ 48
    → t₁ ≡ take 16 delay ++ drop 16 t₀ → t₂ ≡ take long t₁ ++ (take 16 samples ++ drop (long + 16) t₁)
    → t₃ ≡ take (long + s) t₂ ++ (take 16 (drop s samples) ++ drop (long + s + 16) t₂) → take (long + n) t₃ ≡ take long delay ++ take n samples
laid_groups delay samples t₀ t₁ t₂ t₃ long s n count few part h room size e₁ e₂ e₃ =
    let d : length (take 16 delay) ≡ 16 = length-take-le 16 delay h in
    let l₁ : length t₁ ≡ 48 = ap length e₁ ∙ length-append (take 16 delay) (drop 16 t₀) ∙ omega (arith, d, length-drop 16 t₀, size) in
    let l₂ : length t₂ ≡ 48 = ap length e₂ ∙ long_from 16 t₁ samples long (omega arith) (omega (arith, l₁)) ∙ l₁ in
    let k : length (take long t₁) ≡ long = length-take-le long t₁ (omega (arith, l₁)) in
    let further : long + n ≡ long + s + 16 = omega arith in
    ap₂ {C = List Float} take further e₃
    ∙ up_to 16 t₂ (drop s samples) (long + s) (simp length-drop (omega arith)) (omega (arith, l₂))
    ∙ ap (λ (l : List Float). l ++ take 16 (drop s samples))
    (sym (take-take (long + s) (long + 16) t₂ (omega arith))
    ∙ ap (take (long + s)) (ap (take (long + 16)) e₂ ∙ up_to 16 t₁ samples long (omega arith) (omega (arith, l₁)))
    ∙ ap (λ (n : ℕ). take (n + s) (take long t₁ ++ take 16 samples)) (sym k)
    ∙ take-append-add (take long t₁) (take 16 samples) s
    ∙ ap (λ (l : List Float). take long t₁ ++ l) (take-take s 16 samples part))
    ∙ append_assoc (take long t₁) (take s samples) (take 16 (drop s samples))
    ∙ ap₂ {C = List Float} ◌++◌
    (ap (take long) e₁ ∙ take-append-le long (take 16 delay) (drop 16 t₀) (omega (arith, d)) ∙ take-take long 16 delay few)
    (sym (take-add s 16 samples) ∙ ap (λ (k : ℕ). take k samples) (sym count))

-- a group more of d stands in front of t
pub more_laid : (t d y part : List Float) (k : ℕ) → take k t ≡ take k d → k + 16 ≤ length t → k + 16 ≤ length d → y ≡ take 16 (take (length d - k) (drop k d))
    → part ≡ put_in_front y (take (length t - k) (drop k t)) → take (k + 16) (take k t ++ (part ++ drop (length t - k) (drop k t))) ≡ take (k + 16) d
more_laid t d y part k same room h e p =
    ap (take (k + 16)) (put_from 16 t y (drop k d) part k (e ∙ ap (take 16) (rest d k)) (simp length-drop (omega arith)) room p)
    ∙ up_to 16 t (drop k d) k (simp length-drop (omega arith)) room
    ∙ ap (λ (l : List Float). l ++ take 16 (drop k d)) same
    ∙ sym (take-add k 16 d)

pub more_long : (t d y part : List Float) (k : ℕ) → k + 16 ≤ length t → k + 16 ≤ length d → y ≡ take 16 (take (length d - k) (drop k d))
    → part ≡ put_in_front y (take (length t - k) (drop k t)) → length (take k t ++ (part ++ drop (length t - k) (drop k t))) ≡ length t
more_long t d y part k room h e p =
    ap length (put_from 16 t y (drop k d) part k (e ∙ ap (take 16) (rest d k)) (simp length-drop (omega arith)) room p)
    ∙ long_from 16 t (drop k d) k (simp length-drop (omega arith)) room

-- and so do fewer
pub laid_less : (t d : List Float) (k n : ℕ) → k ≤ n → take n t ≡ take n d → take k t ≡ take k d
laid_less t d k n h e = sym (take-take k n t h) ∙ ap (take k) e ∙ take-take k n d h

-- what was put behind the first places
pub behind_front : (s r : List Float) (k : ℕ) → k ≤ length s → drop k (take k s ++ (r ++ drop (length s - k) (drop k s))) ≡ r
behind_front s r k h =
    drop_at (take k s) (r ++ drop (length s - k) (drop k s)) k (length-take-le k s h)
    ∙ ap (λ (l : List Float). r ++ l) (drop_of_length-le (drop k s) {i = length s - k} (omega (arith, length-drop k s)))
    ∙ append-nil r
