-- A turn of the loop that feeds by batches: the outputs that are due are written, and a batch is taken of the samples left, so many that a place is left before its last sum.
use mathlib.Core.Path.{◌≡◌, ◌∙◌, subst⁻¹}
use mathlib.Core.Bool.{true, false}
use mathlib.Core.List.{List, ◌++◌, map}
use Prim.Native.Nat.{ℕ, ◌+◌, ◌-◌, ◌≤◌, ◌<◌}
use native.Mathlib.Omega.{arith}
use borrow.Author.Tests.{lt-ltb}
use lib.IntN.{ℤ}
use lib.Ieee.{Float}
use lib.ListN.{length, take, drop}
use mir.Syntax.{w16}
use Rattle.theory.specs.Sections.{outs}
use Rattle.theory.specs.Tally.{held_sum}
use Rattle.theory.proofs.FeedLoop.{Midway}
use Rattle.nonrecursive.specs.EitherKind.{valid_at, fine, either}
use Rattle.q15.specs.Fixed.{cut, cut_count}
use Rattle.q15.specs.FirDecimator.{summing}
use Rattle.q15.specs.FirDecimator as Q
use Rattle.float.specs.PolyphaseOpening.{valid_in_line}
use Rattle.float.specs.inner.Running.{Emitted, emitted_from}
use Rattle.float.specs.PolyphaseResamp.{in_line}
use Rattle.float.specs.inner.Running.{setting_of}
use Rattle.float.specs.declared.settings.Setting.{Setting}
use Rattle.chain.specs.Chain.{Parts, from2, chain}
use Rattle.chain.specs.Cuts.{most_cuts}
use Rattle.chain.specs.inner.Batched.{Whole, Batched, Leaves, most_sums}
use Rattle.line.specs.Openings.{thinner_of}
use Rattle.line.specs.Line.{line, parts_of}
use Rattle.line.specs.declared.gauge_line.Line.{Line}
use Rattle.std.proofs.lemmas.Bool.{and_parts}
use Rattle.line.proofs.Lawful.{Good, line_lawful, to_parts}
use Rattle.line.proofs.Left.{left, left_are, left_long, none_behind}
use Rattle.line.proofs.Numbers.{counter_below}
use Rattle.line.proofs.Emitting.{Drained, emptied, with_mu}
use Rattle.line.proofs.Batching.{after_line_batch}

valid_of : (l : Line) → fine (thinner_of l) ≡ true → valid_at l.thinning l.cic.stages l.cic.r l.cic.sample_counter ≡ true
unfolding fine
valid_of l h = (and_parts (valid_at l.thinning l.cic.stages l.cic.r l.cic.sample_counter) _ h).0

module _ {l₀ : Line} {xs : List ℤ} {out₀ out : List Float} {l : Line} {t w : ℕ} (mid : Midway line 64 Good line_lawful l₀ xs out₀ out l t w)
    {q : Setting} (setting : q ≡ setting_of l.resampler) {e : Emitted} (due : e ≡ emitted_from q.straight q.phases q.phase_taps q.step l.resampler.delay l.resampler.prototype l.resampler.mu w out) where
  abbrev quiet : Drained l₀ xs out₀ l t e
  quiet = emptied mid setting due

  -- the line after the outputs that were due, and the samples and the places that are left
  abbrev m : Line
  m = with_mu l e.mu

  abbrev ys : List ℤ
  ys = left t xs

  abbrev rest : List Float
  rest = left e.written e.span

  -- what a batch of k samples comes to, after which n values were cut
  abbrev Batch : ℕ → ℕ → ℕ → Parts → List Float → Type 0
  Batch k n v p o =
      let sums : List ℤ = outs either (thinner_of m) (take k ys) in
      (1 ≤ k) × Whole chain (parts_of m) (take k ys) (length rest) × Batched chain (parts_of m) (take k ys) rest o p v
      × (n ≡ held_sum most_cuts l.cuts (cut_count w16 sums + cut_count w16 (outs summing m.fir (map (cut w16) sums))))

  module _ (enough : l.cic.r ≤ length xs - t) {count : ℕ} (some : 1 ≤ count) (counted : (count ≤ most_sums) × (1 ≤ count → 1 ≤ length e.span - e.written))
      (leaving : Q.valid_in_line m.fir ≡ true → valid_in_line m.resampler ≡ true → in_line.due m.resampler ≡ false → 1 ≤ count → Leaves from2 (parts_of m).1 count (length e.span - e.written))
      {k n v : ℕ} {p : Parts} {o : List Float} (few : k ≤ length ys)
      (batch : valid_at m.thinning m.cic.stages m.cic.r m.cic.sample_counter ≡ true → valid_in_line m.resampler ≡ true → 1 ≤ count
      → count ≤ most_sums → 1 ≤ length ys → Leaves from2 (parts_of m).1 count (length rest) → Batch k n v p o) where
    some_left : 1 ≤ length ys
    some_left =
        let below = counter_below _ mid.good in
        let long = left_long t xs in
        omega (arith, below, enough, long)

    place : e.written < length e.span
    place = let h = counted.1 some in omega (arith, h)

    batched : Batch k n v p o
    batched =
        let good = to_parts m quiet.mid.good in
        let inside = good.1.1.1.1.1 in
        let leaves = leaving good.1.1.0 inside (quiet.quiet (lt-ltb e.written (length e.span) place)) some in
        batch (valid_of m good.0) inside some counted.0 some_left (subst⁻¹ (λ (j : ℕ). Leaves from2 (parts_of m).1 count j) (left_long e.written e.span) leaves)

    -- some samples are taken, and not more than there are
    pub some_taken : (1 ≤ k) × (t + k ≤ length xs)
    some_taken = let long = left_long t xs in let here = mid.some_taken in (batched.0, omega (arith, long, here, few))

    pub after_batch_turn : (l' : Line) → parts_of l' ≡ p → l'.cuts ≡ n → Midway line 64 Good line_lawful l₀ xs out₀ (take e.written e.span ++ (o ++ drop (length e.span - e.written) (drop e.written e.span))) l' (t + k) (e.written + v)
    after_batch_turn l' parts cuts =
        subst⁻¹ (λ (u : List Float). Midway line 64 Good line_lawful l₀ xs out₀ (take e.written e.span ++ u) l' (t + k) (e.written + v)) (none_behind e.written e.span o)
        (after_line_batch l₀ xs out₀ e.span m t e.written quiet.mid ys (left_are t xs) rest (left_are e.written e.span) l' k v o few batched.1 (rw parts batched.2) (cuts ∙ batched.3))
