-- A comparison that goes on from where another stopped: words behind a place are compared as they are in the whole, and what is lost stays lost.
use Rattle.std.proofs.Common.{◌≡◌, ℕ, ◌+◌, ◌-◌, ◌<◌, ◌≤◌, ◌==◌, Bool, true, false, cond, List, length, drop, refl, ap, sym, ◌∙◌, subst, arith, length-drop, lt-ltb, eq-eqb, add-zero}
use Rattle.std.proofs.lemmas.Grind.{common_steps}
use Rattle.std.proofs.lemmas.List.{drop-drop}
use Rattle.records.specs.Comparison.{Compares, after, after_if, lost, word_at}
use Rattle.records.specs.Places.{Moves, Shifts}

yes : (old new : List ℕ) (place : ℕ) → length old < lost → place ≤ length old → new ≡ drop place old → Compares true old new place
yes old new place f w l = record { past = f; differs = λ h. cc; within = λ _. w; left = λ _. l }

no : (old new : List ℕ) (place : ℕ) → length old < lost → place ≡ lost → Compares false old new place
no old new place f l = record { past = f; differs = λ _. l; within = λ h. cc; left = λ h. cc }

-- the next word, where it is there
place-next : (w : List ℕ) (passed : Bool) → 0 < length w → after_if passed w 0 ≡ cond passed 1 lost
unfolding after after_if
place-next w true h = rw (lt-ltb 0 (length w) h, eq-eqb (word_at w 0) (word_at w 0) refl) refl
place-next w false h = refl

pub next : (w new : List ℕ) (passed : Bool) → length w < lost → 0 < length w → new ≡ drop 1 w → Compares passed w new (after_if passed w 0)
next w new true f h e = let p = place-next w true h in subst (λ n. Compares true w new n) (sym p) (yes w new 1 f h e)
next w new false f h e = no w new _ f (place-next w false h)

-- no word is left
pub no_word : (w new : List ℕ) (passed : Bool) → length w ≡ 0 → Compares false w new (after_if passed w 0)
unfolding after after_if
no_word w new true e = no w new _ (omega arith) (grind (arith, common_steps))
no_word w new false e = no w new _ (omega arith) refl

-- a word that is tested for being x
tested : (w : List ℕ) (at x : ℕ) → after_if (word_at w at == x) w at ≡ after w at x
unfolding after after_if
tested w at x = grind (arith, common_steps)

pub word : (agrees : Bool) (w new : List ℕ) (x y : ℕ) → x ≡ y → Compares agrees w new (after_if (word_at w 0 == x) w 0) → Compares agrees w new (after w 0 y)
word agrees w new x y e h = subst (λ n. Compares agrees w new n) (tested w 0 x ∙ ap (after w 0) e) h

onwards : (q : Bool) (w u : List ℕ) (n here whole : ℕ) → Compares true w (drop n w) n → Compares q (drop n w) u here → Shifts n here whole → Compares q w u whole
onwards true w u n here whole a b s =
    let h : here ≤ length w - n = subst (λ m. here ≤ m) (length-drop n w) (b.within refl) in
    let i : n ≤ length w = a.within refl in
    subst (λ m. Compares true w u m) (sym (s.moves (omega arith))) (yes w u (n + here) a.past (omega arith) (b.left refl ∙ drop-drop here n w))
onwards false w u n here whole a b s = no w u whole a.past (s.loses (b.differs refl))

-- what follows a comparison that agreed
pub goes_on : {g : List ℕ → ℕ → ℕ} (p q : Bool) (w v u : List ℕ) (n : ℕ) → Moves g → p ≡ true → Compares p w v n → Compares q v u (g v 0) → Compares q w u (g w n)
goes_on false q w v u n m e a b = absurd (cc)
goes_on {g} true q w v u n m e a b =
    let l : v ≡ drop n w = a.left refl in
    let i : n ≤ length w = a.within refl in
    let f : length w < lost = a.past in
    let s : Shifts n (g (drop n w) 0) (g w n) = rw add-zero at (m.shifts w n 0 i f (omega arith)) in
    onwards q w u n (g (drop n w) 0) (g w n) (subst (λ y. Compares true w y n) l a) (subst (λ y. Compares q y u (g y 0)) l b) s

-- what would follow one that differed
pub stops : {g : List ℕ → ℕ → ℕ} (p : Bool) (w v u : List ℕ) (n : ℕ) → Moves g → p ≡ false → Compares p w v n → Compares p w u (g w n)
stops true w v u n m e a = absurd (cc)
stops {g} false w v u n m e a = no w u (g w n) a.past (ap (g w) (a.differs refl) ∙ m.keeps w a.past)
