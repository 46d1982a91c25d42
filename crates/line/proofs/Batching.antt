-- What a batch of the sections comes to for the line, whose count of cut values has grown by those of the block.
use mathlib.Core.Path.{◌≡◌, refl, sym, ap, ap₂, ◌∙◌, subst⁻¹}
use mathlib.Core.Bool.{true}
use mathlib.Core.List.{List, ◌++◌, map, append_assoc}
use Prim.Native.Nat.{ℕ, ◌+◌, ◌-◌, ◌≤◌}
use native.Mathlib.Omega.{arith}
use lib.IntN.{ℤ}
use lib.Ieee.{Float}
use lib.ListN.{length, take, drop, length-append, length-drop}
use lib.Seq.{take_all, length-take-le, drop-drop}
use mir.Syntax.{w16}
use Rattle.theory.specs.Sections.{outs}
use Rattle.theory.specs.Tally.{held_sum, tallied}
use Rattle.theory.specs.Feeds as F
use Rattle.theory.proofs.Tally.{weights, feed_told}
use Rattle.theory.proofs.Feeds.{feed_right}
use Rattle.theory.proofs.FeedLoop.{Midway}
use Rattle.theory.proofs.Batches.{after_batch}
use Rattle.theory.proofs.FeedsSeen.{feed_viewed, feed_tallied}
use Rattle.nonrecursive.specs.EitherKind.{either}
use Rattle.q15.specs.Fixed.{cut, cut_count}
use Rattle.q15.specs.FirDecimator.{summing}
use Rattle.chain.specs.Chain.{Parts, chain}
use Rattle.chain.specs.Cuts.{most_cuts}
use Rattle.chain.specs.inner.Batched.{Whole, Batched}
use Rattle.line.specs.Openings.{thinner_of, valid}
use Rattle.line.specs.Line.{parts_of, counted_of, of_counted, cuts_at, line, fed_line}
use Rattle.line.specs.inner.Together.{Begun, RanTo}
use Rattle.line.specs.declared.gauge_line.Line.{Line}
use Rattle.line.proofs.Lawful.{Good, line_lawful}
use Rattle.line.proofs.Left.{left, left_are, none_behind}
use Rattle.line.proofs.Cuts.{front, weight, front_of, tallies, weights_are}

module _ (l : Line) (zs : List ℤ) (o₀ o : List Float) (k : Line) (w : ℕ) where
  abbrev sums : List ℤ
  sums = outs either (thinner_of l) zs

  abbrev places : ℕ
  places = length o₀

  module _ (whole : Whole chain (parts_of l) zs places) where
    fed : (F.feed (tallied most_cuts cuts_at chain) (counted_of l) zs places).line.0 ≡ (F.feed chain (parts_of l) zs places).line
    fed = ap (λ (g : F.Fed Parts Float). g.line) (feed_tallied most_cuts cuts_at chain (parts_of l) l.cuts zs places _ refl)

    taken_by : (F.feed (tallied most_cuts cuts_at chain) (counted_of l) zs places).taken ≡ (F.feed chain (parts_of l) zs places).taken
    taken_by = ap (λ (g : F.Fed Parts Float). g.taken) (feed_tallied most_cuts cuts_at chain (parts_of l) l.cuts zs places _ refl)

    written_by : (F.feed (tallied most_cuts cuts_at chain) (counted_of l) zs places).written ≡ (F.feed chain (parts_of l) zs places).written
    written_by = ap (λ (g : F.Fed Parts Float). g.written) (feed_tallied most_cuts cuts_at chain (parts_of l) l.cuts zs places _ refl)

    seen : F.feed line l zs places ≡ record {
      taken = (F.feed (tallied most_cuts cuts_at chain) (counted_of l) zs places).taken;
      written = (F.feed (tallied most_cuts cuts_at chain) (counted_of l) zs places).written;
      line = of_counted (F.feed (tallied most_cuts cuts_at chain) (counted_of l) zs places).line;
    }
    seen = feed_viewed (tallied most_cuts cuts_at chain) counted_of of_counted (λ p. refl) (λ s. refl) l zs places

    pub line_whole : Whole line l zs places
    line_whole = ap (λ (g : F.Fed Line Float). g.taken) seen ∙ taken_by ∙ whole

    -- the count has grown by what was cut of the sums and of the FIR's
    cuts_by : (F.feed line l zs places).line.cuts ≡ held_sum most_cuts l.cuts (cut_count w16 sums + cut_count w16 (outs summing l.fir (map (cut w16) sums)))
    cuts_by =
        (feed_told most_cuts front weight line front_of (λ x. x.cuts) tallies l zs places).counted
        ∙ ap (λ (n : ℕ). held_sum most_cuts l.cuts (weights front weight (front_of l) (take n zs))) line_whole
        ∙ ap (λ (v : List ℤ). held_sum most_cuts l.cuts (weights front weight (front_of l) v)) (take_all (length zs) zs (omega arith))
        ∙ ap (held_sum most_cuts l.cuts) (weights_are zs (thinner_of l) l.fir)

    pub line_batched :
        Batched chain (parts_of l) zs o₀ o (parts_of k) w
        → k.cuts ≡ held_sum most_cuts l.cuts (cut_count w16 sums + cut_count w16 (outs summing l.fir (map (cut w16) sums)))
        → Batched line l zs o₀ o k w
    line_batched b c =
        record {
          state =
              ap₂ {C = Line} (λ (p : Parts) (n : ℕ). of_counted (p, n)) (b.state ∙ sym fed ∙ sym (ap (λ (g : F.Fed Line Float). parts_of g.line) seen)) (c ∙ sym cuts_by);
          wrote = b.wrote ∙ sym (ap (λ (v : List Float). length v) (ap (λ (g : F.Fed Line Float). g.written) seen ∙ written_by));
          span = b.span ∙ sym (ap (λ (v : List Float). v ++ drop (length v) o₀) (ap (λ (g : F.Fed Line Float). g.written) seen ∙ written_by));
        }

-- ---- between two batches
module _ (l₀ : Line) (xs : List ℤ) (out₀ out : List Float) (l : Line) (t w : ℕ) (mid : Midway line 64 Good line_lawful l₀ xs out₀ out l t w) where
  -- the samples ys and the places `rest` are those left: so many of the samples are taken whole
  pub after_line_batch :
      (ys : List ℤ) → ys ≡ drop t xs → (rest : List Float) → rest ≡ drop w out → (k : Line) (taken v : ℕ) (part : List Float) → taken ≤ length ys
      → Whole chain (parts_of l) (take taken ys) (length rest) → Batched chain (parts_of l) (take taken ys) rest part (parts_of k) v
      → k.cuts ≡ held_sum most_cuts l.cuts (cut_count w16 (outs either (thinner_of l) (take taken ys)) + cut_count w16 (outs summing l.fir (map (cut w16) (outs either (thinner_of l) (take taken ys)))))
      → Midway line 64 Good line_lawful l₀ xs out₀ (take w out ++ part) k (t + taken) (w + v)
  after_line_batch ys e rest er k taken v part few whole batched cuts =
      let zs : List ℤ = take taken ys in
      let g : F.Fed Line Float = F.feed line l zs (length rest) in
      let b : Batched line l zs rest part k v = line_batched l zs rest part k v whole batched cuts in
      let long : length zs ≡ taken = length-take-le taken ys few in
      let room : length out₀ - w ≡ length rest = ap (λ (n : ℕ). n - w) (sym mid.same) ∙ sym (ap length er ∙ length-drop w out) in
      let places : F.feed line l (take taken (drop t xs)) (length out₀ - w) ≡ g =
      ap₂ {C = F.Fed Line Float} (λ (v : List ℤ) (n : ℕ). F.feed line l v n) (ap (take taken) (sym e)) room
      in
      let within : t + taken ≤ length xs = let q = ap length e ∙ length-drop t xs in let s = mid.some_taken in omega (arith, q, few, s) in
      let next = after_batch line 64 Good line_lawful l₀ xs out₀ out l t w taken mid within g places (line_whole l zs rest part k v whole ∙ long) in
      let span : part ≡ g.written ++ drop (length g.written) (drop w out) = b.span ∙ ap (λ (o : List Float). g.written ++ drop (length g.written) o) er in
      subst⁻¹ (λ (o : List Float). Midway line 64 Good line_lawful l₀ xs out₀ (take w out ++ o) k (t + taken) (w + v)) span
      (subst⁻¹ (λ (m : Line). Midway line 64 Good line_lawful l₀ xs out₀ (spanned g) m (t + taken) (w + v)) b.state
      (subst⁻¹ (λ (n : ℕ). Midway line 64 Good line_lawful l₀ xs out₀ (spanned g) g.line (t + taken) (w + n)) b.wrote next))
    where
      spanned : F.Fed Line Float → List Float
      spanned g = take w out ++ (g.written ++ drop (length g.written) (drop w out))

  -- what the loop keeps is what it answers
  pub to_begun : Begun l₀ xs out₀ out t w l
  unfolding fed_line
  to_begun =
      record {
        some_taken = mid.some_taken;
        some_written = mid.some_written;
        same = mid.same;
        fine = mid.good;
        rest = mid.rest;
        took = ap (λ (f : F.Fed Line Float). f.taken) mid.ahead;
        wrote = ap (λ (f : F.Fed Line Float). f.written) mid.ahead;
        line = ap (λ (f : F.Fed Line Float). f.line) mid.ahead;
      }

-- a feed by batches, and then a feed of the rest
pub begun_ran :
    (l : Line) (xs : List ℤ) (before mid : List Float) (t w : ℕ) (m : Line) (ys : List ℤ) (rest part : List Float) (t' w' : ℕ) (k : Line)
    → Begun l xs before mid t w m → ys ≡ drop t xs → rest ≡ drop w mid → RanTo m ys rest part t' w' k
    → RanTo l xs before (take w mid ++ part) (t + t') (w + w') k
begun_ran l xs before mid t w m ys rest part t' w' k b ey er r =
    let places : length rest ≡ length before - w = ap length er ∙ length-drop w mid ∙ ap (λ (n : ℕ). n - w) b.same in
    let same : fed_line m ys (length rest) ≡ fed_line m (drop t xs) (length before - w) = ap₂ {C = F.Fed Line Float} (λ (v : List ℤ) (n : ℕ). fed_line m v n) ey places in
    let f : F.Fed Line Float = fed_line m (drop t xs) (length before - w) in
    let front : length (take w mid) ≡ w = length-take-le w mid (let s = b.same in let q = b.some_written in omega (arith, s, q)) in
    let wrote : w' ≡ length f.written = r.wrote ∙ ap (λ (g : F.Fed Line Float). length g.written) same in
    let total : length (fed_line l xs (length before)).written ≡ w + length f.written =
    ap length b.wrote ∙ length-append (take w mid) f.written ∙ ap (λ (n : ℕ). n + length f.written) front
    in
    record {
      took = ap (λ (n : ℕ). t + n) (r.took ∙ ap (λ (g : F.Fed Line Float). g.taken) same) ∙ sym b.took;
      wrote = ap (λ (n : ℕ). w + n) wrote ∙ sym total;
      line = r.line ∙ ap (λ (g : F.Fed Line Float). g.line) same ∙ sym b.line;
      span =
          ap (λ (v : List Float). take w mid ++ v) (r.span ∙ ap (λ (g : F.Fed Line Float). g.written ++ drop (length g.written) rest) same)
          ∙ sym (append_assoc (take w mid) f.written (drop (length f.written) rest))
          ∙ ap₂ {C = List Float} (λ (a c : List Float). a ++ c) (sym b.wrote)
          (ap (drop (length f.written)) (er ∙ b.rest) ∙ drop-drop (length f.written) w before ∙ ap (λ (n : ℕ). drop n before) (sym total));
    }

-- the same of the parts of the samples and of the span that the code lends for the rest
pub begun_ran_on :
    (l : Line) (xs : List ℤ) (before mid : List Float) (t w : ℕ) (m : Line) (part : List Float) (t' w' : ℕ) (k : Line)
    → Begun l xs before mid t w m → RanTo m (left t xs) (left w mid) part t' w' k
    → RanTo l xs before (take w mid ++ (part ++ drop (length mid - w) (drop w mid))) (t + t') (w + w') k
begun_ran_on l xs before mid t w m part t' w' k b r =
    subst⁻¹ (λ (v : List Float). RanTo l xs before (take w mid ++ v) (t + t') (w + w') k) (none_behind w mid part)
    (begun_ran l xs before mid t w m (left t xs) (left w mid) part t' w' k b (left_are t xs) (left_are w mid) r)

-- a feed of a valid line stays within the samples and the span
module _ (l : Line) (xs : List ℤ) (before after : List Float) (taken written : ℕ) (k : Line) (good : valid l ≡ true) (r : RanTo l xs before after taken written k) where
  pub ran_within : (taken ≤ length xs) × (written ≤ length before)
  unfolding fed_line
  ran_within =
      let f = feed_right line 64 Good line_lawful l xs (length before) good in
      (subst⁻¹ (λ (n : ℕ). n ≤ length xs) r.took f.within, subst⁻¹ (λ (n : ℕ). n ≤ length before) r.wrote f.room)
