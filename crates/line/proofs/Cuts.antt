-- 02, §4: after any history the line's count is the number of cuts that the definitions make for the samples taken, held: what a sample adds follows from the decimator and the
-- FIR alone, and over a whole list that is what sections 2 and 3 cut of it.
use mathlib.Core.Path.{◌≡◌, refl, sym, ap, ◌∙◌}
use mathlib.Core.Bool.{Bool, true, false, cond}
use mathlib.Core.List.{List, [], ◌∷◌, map}
use Rattle.std.specs.Prelude.{Option, None, Some}
use Prim.Native.Nat.{ℕ, ◌+◌, min}
use native.Mathlib.Omega.{arith}
use lib.Dec.{eqb}
use lib.IntN.{ℤ}
use lib.ListN.{length}
use mir.Syntax.{w16}
use Rattle.theory.specs.Sections.{Section, onto, outs, each}
use Rattle.theory.proofs.Sections.{and_then, next_by}
use Rattle.theory.specs.Machines.{before, next_for}
use Rattle.theory.specs.Feeds as F
use Rattle.theory.specs.Tally.{held_sum}
use Rattle.theory.proofs.Tally.{weights, Tallies, history_told}
use Rattle.integer.specs.MovingSums.{scaled_sums}
use Rattle.nonrecursive.specs.EitherKind.{Thinner, either}
use Rattle.nonrecursive.specs.EitherKind as E
use Rattle.nonrecursive.proofs.EitherKind.{either_made}
use Rattle.q15.specs.Fixed.{cut, cut_one, cut_count}
use Rattle.q15.specs.PolyphaseDecimate.{fir_sums}
use Rattle.q15.specs.FirDecimator.{fir, fir_next, fir_sum_out, summing}
use Rattle.q15.specs.FirDecimator as Q
use Rattle.q15.specs.declared.fir_decimator.FirDecimator.{FirDecimator}
use Rattle.q15.proofs.FirStream.{line_summed}
use Rattle.line.specs.Outputs.{Opening, cuts_of, held_cuts}
use Rattle.chain.specs.Chain.{from3}
use Rattle.chain.specs.Cuts.{most_cuts}
use Rattle.line.specs.Openings.{thinner_of, fresh}
use Rattle.line.specs.Line.{parts_of, sum_cut, cuts_for, line}
use Rattle.line.specs.declared.gauge_line.Line.{Line}
use Rattle.line.proofs.Openings.{Accepted}

-- sections 1 to 3, which a due output does not touch
abbrev pub Front : Type 0
Front = Thinner × (Unit {0} × FirDecimator)

abbrev pub front : Section Front ℤ ℤ
front = and_then either (and_then (each (cut w16)) fir)

abbrev pub front_of : Line → Front
front_of l = (thinner_of l, (tt, l.fir))

abbrev pub weight : Front → ℤ → ℕ
weight t x = cuts_for t.1.1 (either.out t.0 x)

pub tallies : Tallies most_cuts front weight line front_of (λ l. l.cuts)
tallies =
    record {
      view_after = λ l. refl;
      view_next = λ l x. go l x (either.out (thinner_of l) x);
      count_after = λ l. refl;
      count_next = λ l x. refl;
    }
  where
    go :
        (l : Line) (x : ℤ) (o : Option ℤ)
        → ◌≡◌ {A = Front} (either.next (thinner_of l) x, (tt, (next_for either (before (each (cut w16)) from3) (parts_of l).1 o).1.0)) (either.next (thinner_of l) x, next_by either (and_then (each (cut w16)) fir) (tt, l.fir) o)
    go l x None = refl
    go l x (Some v) = refl

count_onto : (o : Option ℤ) (l : List ℤ) → cut_count w16 (onto o l) ≡ sum_cut o + cut_count w16 l
count_onto None l = let q : cut_count w16 l ≡ 0 + cut_count w16 l = omega arith in q
count_onto (Some z) l = refl

-- over a whole list
pub weights_are :
    (w : List ℤ) (d : Thinner) (s : FirDecimator)
    → weights front weight (d, (tt, s)) w ≡ cut_count w16 (outs either d w) + cut_count w16 (outs summing s (map (cut w16) (outs either d w)))
weights_are [] d s = refl
weights_are (x ∷ w) d s = go (either.out d x) (λ s'. weights_are w (either.next d x) s')
  where
    rest : List ℤ
    rest = outs either (either.next d x) w

    go :
        (o : Option ℤ)
        → ((s' : FirDecimator) → weights front weight (either.next d x, (tt, s')) w ≡ cut_count w16 rest + cut_count w16 (outs summing s' (map (cut w16) rest)))
        → cuts_for s o + weights front weight (either.next d x, next_by either (and_then (each (cut w16)) fir) (tt, s) o) w
        ≡ cut_count w16 (onto o rest) + cut_count w16 (outs summing s (map (cut w16) (onto o rest)))
    go None ih = let i = ih s in let q : 0 + weights front weight (either.next d x, (tt, s)) w ≡ cut_count w16 rest + cut_count w16 (outs summing s (map (cut w16) rest)) = omega (arith, i) in q
    go (Some v) ih =
        let i = ih (fir_next s (cut w16 v)) in
        let a : ℕ = cut_one w16 v in
        let b : ℕ = sum_cut (fir_sum_out s (cut w16 v)) in
        let k : ℕ = cut_count w16 rest in
        let m : ℕ = cut_count w16 (outs summing (fir_next s (cut w16 v)) (map (cut w16) rest)) in
        let sum : a + b + (k + m) ≡ a + k + (b + m) = omega arith in
        ap (λ (n : ℕ). a + b + n) i ∙ sum
        ∙ ap (λ (n : ℕ). a + k + n) (sym (count_onto (fir_sum_out s (cut w16 v)) (outs summing (fir_next s (cut w16 v)) (map (cut w16) rest))))

module _ (o : Opening) (ok : Accepted o) where
  fresh_cuts : (w : List ℤ) → weights front weight (front_of (fresh o)) w ≡ cuts_of o w
  unfolding fresh cuts_of
  fresh_cuts w =
      let sums = scaled_sums o.settings.stages o.settings.r w in
      weights_are w (E.fresh o.settings.thinning o.settings.stages o.settings.r) (Q.fresh_in_line o.taps o.settings.factor)
      ∙ ap (λ (v : List ℤ). cut_count w16 v + cut_count w16 (outs summing (Q.fresh_in_line o.taps o.settings.factor) (map (cut w16) v)))
      (either_made o.settings.thinning o.settings.stages o.settings.r ok.thinned w)
      ∙ ap (λ (n : ℕ). cut_count w16 sums + n)
      (ap (cut_count w16) (line_summed o.taps o.settings.factor ok.filter (map (cut w16) sums))
      ∙ by (eqb (length o.taps) 0) (fir_sums o.taps o.settings.factor (map (cut w16) sums)))
    where
      by : (b : Bool) (l : List ℤ) → cut_count w16 (cond b [] l) ≡ cond b 0 (cut_count w16 l)
      by true l = refl
      by false l = refl

  pub cuts_held : (h : F.Feedings ℤ) → (F.state_after line (fresh o) h).cuts ≡ held_cuts o (F.taken_by_feeds line (fresh o) h)
  unfolding fresh held_cuts
  cuts_held h =
      let t = history_told most_cuts front weight line front_of (λ l. l.cuts) tallies (fresh o) h in
      let n : ℕ = cuts_of o (F.taken_by_feeds line (fresh o) h) in
      let q : 0 + min n 4294967295 ≡ min n 4294967295 = omega arith in
      t.counted ∙ ap (held_sum most_cuts 0) (fresh_cuts (F.taken_by_feeds line (fresh o) h)) ∙ q
