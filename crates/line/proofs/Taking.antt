-- A sample in the line: its decimator makes nothing, or a sum that, scaled and cut, goes on into the FIR, and the count goes by what is cut of it and of the FIR's.
use mathlib.Core.Path.{◌≡◌, refl, ap₂, ◌∙◌}
use Rattle.std.specs.Prelude.{Option, None, Some}
use Prim.Native.Nat.{ℕ, ◌^◌}
use lib.IntN.{ℤ}
use lib.Ieee.{Float}
use mir.Syntax.{w16}
use Rattle.theory.specs.Floor.{floor_div}
use Rattle.theory.specs.Tally.{held_sum}
use Rattle.theory.proofs.Tally.{held_none, held_more}
use Rattle.integer.specs.Gain.{gain_bits}
use Rattle.nonrecursive.specs.EitherKind.{next_by, out_by, either}
use Rattle.q15.specs.Fixed.{cut, cut_one}
use Rattle.q15.specs.FirDecimator.{fir_sum_out}
use Rattle.chain.specs.Chain.{Parts2, Parts3, from3}
use Rattle.chain.specs.Cuts.{most_cuts}
use Rattle.line.specs.Openings.{thinner_of}
use Rattle.line.specs.Line.{parts_of, of_counted, sum_cut, line}
use Rattle.line.specs.inner.Together.{Takes}
use Rattle.line.specs.declared.gauge_line.Line.{Line}

module _ (l l' : Line) (x : ℤ) (moved : thinner_of l' ≡ next_by l.thinning (thinner_of l) x) where
  pub line_waits : None ≡ out_by l.thinning (thinner_of l) x → (parts_of l').1 ≡ (parts_of l).1 → l'.cuts ≡ l.cuts → Takes line l x None l'
  unfolding either
  line_waits made rest cuts = rw (← made, ← moved, held_none most_cuts l.cuts) (refl, ap₂ {C = Line} (λ (r : Parts2) (n : ℕ). of_counted ((thinner_of l', r), n)) rest cuts)

  pub line_sums :
      (v z : ℤ) (o : Option Float) → Some v ≡ out_by l.thinning (thinner_of l) x → z ≡ floor_div v (2 ^ gain_bits l.cic.stages l.cic.r)
      → Takes from3 (parts_of l).1.1 (cut w16 z) o (parts_of l').1.1
      → l'.cuts ≡ held_sum most_cuts (held_sum most_cuts l.cuts (cut_one w16 z)) (sum_cut (fir_sum_out l.fir (cut w16 z)))
      → Takes line l x o l'
  unfolding either
  line_sums v z o made scaled on count =
      let cuts = count ∙ held_more most_cuts l.cuts (cut_one w16 z) (sum_cut (fir_sum_out l.fir (cut w16 z))) in
      rw (← made, ← moved, ← scaled) (on.0, ap₂ {C = Line} (λ (p : Parts3) (n : ℕ). of_counted ((thinner_of l', (tt, p)), n)) on.1 cuts)
