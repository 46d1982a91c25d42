-- Each section keeps its state valid, so the line does, and 64 outputs a value are enough: the resampler's law with the sections put before it one by one.
use mathlib.Core.Path.{◌≡◌, refl, ◌∙◌}
use mathlib.Core.Bool.{Bool, true, ◌&&◌}
use mathlib.Core.List.{List}
use lib.IntN.{ℤ}
use lib.Ieee.{Float}
use mir.Syntax.{w16}
use Rattle.theory.specs.Sections.{each}
use Rattle.theory.specs.Machines.{before}
use Rattle.theory.specs.Tally.{tallied}
use Rattle.theory.proofs.Tally.{lawful_tallied, all_tallied}
use Rattle.theory.proofs.Machines.{Lawful, all, all_before, lawful_before, lawful_viewed, all_viewed, lawful_as}
use Rattle.theory.specs.Sections.{outs}
use Rattle.nonrecursive.specs.EitherKind.{fine, either}
use Rattle.nonrecursive.proofs.EitherKind.{either_kept}
use Rattle.q15.specs.Fixed.{cut}
use Rattle.q15.specs.FirDecimator.{fir}
use Rattle.q15.specs.FirDecimator as Q
use Rattle.q15.specs.declared.fir_decimator.FirDecimator.{FirDecimator}
use Rattle.q15.proofs.FirSteps.{line_next}
use Rattle.half_band.specs.HbfStream.{hbf_stream}
use Rattle.float.specs.PolyphaseOpening.{valid_in_line}
use Rattle.float.specs.PolyphaseResamp.{in_line}
use Rattle.half_band.specs.declared.hbf_stream.HbfStream.{HbfStream}
use Rattle.float.specs.declared.polyphase_resamp.PolyphaseResampF32.{PolyphaseResampF32}
use Rattle.half_band.proofs.HeldOnes.{line_next_not_refused}
use Rattle.float.proofs.PolyphaseRange as Res
use Rattle.float.specs.Level.{level}
use Rattle.chain.specs.Chain.{Parts, from3, from4, from5, chain}
use Rattle.chain.specs.Cuts.{most_cuts}
use Rattle.line.specs.Openings.{thinner_of, half_band_fine, valid}
use Rattle.line.specs.Line.{parts_of, counted_of, of_counted, cuts_at, line}
use Rattle.line.specs.declared.gauge_line.Line.{Line}
use Rattle.std.proofs.lemmas.Bool.{and_parts, and_from, not-true, not_from_false}

half_band_kept : (s : HbfStream) (x : Float) → half_band_fine s ≡ true → half_band_fine (hbf_stream.next s x) ≡ true
unfolding half_band_fine
half_band_kept s x h = not_from_false _ (line_next_not_refused s x (not-true _ h))

-- the machine from each section on, with what is asked of its states
abbrev Good5 : PolyphaseResampF32 → Type 0
Good5 r = valid_in_line r ≡ true

abbrev Good4 : HbfStream × PolyphaseResampF32 → Type 0
Good4 p = (half_band_fine p.0 ≡ true) × Good5 p.1

abbrev GoodLevel : Unit {0} × (HbfStream × PolyphaseResampF32) → Type 0
GoodLevel p = Unit {0} × Good4 p.1

abbrev Good3 : FirDecimator × (Unit {0} × (HbfStream × PolyphaseResampF32)) → Type 0
Good3 p = (Q.valid_in_line p.0 ≡ true) × GoodLevel p.1

abbrev Good2 : Unit {0} × (FirDecimator × (Unit {0} × (HbfStream × PolyphaseResampF32))) → Type 0
Good2 p = Unit {0} × Good3 p.1

abbrev pub Good1 : Parts → Type 0
Good1 p = (fine p.0 ≡ true) × Good2 p.1

law4 : Lawful from4 64 Good4
law4 = lawful_before hbf_stream from5 64 Good5 Res.line_lawful (λ s. half_band_fine s ≡ true) half_band_kept

law_level : Lawful (before (each level) from4) 64 GoodLevel
law_level = lawful_before (each level) from4 64 Good4 law4 (λ s. Unit {0}) (λ s a g. tt)

law3 : Lawful from3 64 Good3
law3 = lawful_before fir (before (each level) from4) 64 GoodLevel law_level (λ s. Q.valid_in_line s ≡ true) line_next

law2 : Lawful (before (each (cut w16)) from3) 64 Good2
law2 = lawful_before (each (cut w16)) from3 64 Good3 law3 (λ s. Unit {0}) (λ s a g. tt)

law1 : Lawful chain 64 Good1
law1 = lawful_before either (before (each (cut w16)) from3) 64 Good2 law2 (λ t. fine t ≡ true) either_kept

pub to_parts : (l : Line) → valid l ≡ true → Good1 (parts_of l)
unfolding valid
to_parts l h =
    let a : Bool = fine (thinner_of l) in
    let b : Bool = Q.valid_in_line l.fir in
    let d : Bool = half_band_fine l.half_band in
    let e : Bool = valid_in_line l.resampler in
    let r : b && (d && e) ≡ true = (and_parts a (b && (d && e)) h).1 in
    let s : d && e ≡ true = (and_parts b (d && e) r).1 in
    ((and_parts a (b && (d && e)) h).0, (tt, ((and_parts b (d && e) r).0, (tt, ((and_parts d e s).0, (and_parts d e s).1)))))

pub of_parts : (l : Line) → Good1 (parts_of l) → valid l ≡ true
unfolding valid
of_parts l g = and_from _ _ g.0 (and_from _ _ g.1.1.0 (and_from _ _ g.1.1.1.1.0 g.1.1.1.1.1))

-- the count changes nothing of it
law0 : Lawful (tallied most_cuts cuts_at chain) 64 (λ p. Good1 p.0)
law0 = lawful_tallied most_cuts cuts_at chain 64 Good1 law1

abbrev pub Good : Line → Type 0
Good l = valid l ≡ true

pub line_lawful : Lawful line 64 Good
line_lawful = lawful_as Good to_parts of_parts (lawful_viewed (tallied most_cuts cuts_at chain) counted_of of_counted (λ p. refl) 64 (λ p. Good1 p.0) law0)

-- what the line makes of a whole list is what each section makes of the whole list of the section before
pub line_all : (l : Line) → valid l ≡ true → (w : List ℤ) →
    all line 64 l w
    ≡ all in_line 64 l.resampler (outs hbf_stream l.half_band (outs (each level) (tt {0}) (outs fir l.fir (outs (each (cut w16)) (tt {0}) (outs either (thinner_of l) w)))))
line_all l v w =
    let g : Good1 (parts_of l) = to_parts l v in
    let w2 : List ℤ = outs either (thinner_of l) w in
    let w3 : List ℤ = outs (each (cut w16)) (tt {0}) w2 in
    let w4 : List ℤ = outs fir l.fir w3 in
    let w5 : List Float = outs (each level) (tt {0}) w4 in
    all_viewed (tallied most_cuts cuts_at chain) counted_of of_counted (λ p. refl) 64 (λ p. Good1 p.0) law0 l w g
    ∙ all_tallied most_cuts cuts_at chain 64 Good1 law1 (counted_of l) w g
    ∙ all_before either (before (each (cut w16)) from3) 64 Good2 law2 (thinner_of l) (parts_of l).1 w g.1
    ∙ all_before (each (cut w16)) from3 64 Good3 law3 (tt {0}) (parts_of l).1.1 w2 g.1.1
    ∙ all_before fir (before (each level) from4) 64 GoodLevel law_level l.fir (parts_of l).1.1.1 w3 g.1.1.1
    ∙ all_before (each level) from4 64 Good4 law4 (tt {0}) (l.half_band, l.resampler) w4 g.1.1.1.1
    ∙ all_before hbf_stream from5 64 Good5 Res.line_lawful l.half_band l.resampler w5 g.1.1.1.1.1
