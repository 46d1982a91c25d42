-- The line of which a loop holds the settings, the clock and the arrays apart, and what a value does in a machine: for the contracts of the private functions.
use Rattle.std.specs.Prelude.{◌≡◌, Bool, true, ◌&&◌, not, List, ◌++◌, ℕ, ◌+◌, ◌-◌, ◌≤◌, eqb, leb, length, take, drop, ℤ, Float, Option}
use Rattle.std.specs.Float.Ieee.{lt}
use Rattle.theory.specs.Lists.{in_front}
use Rattle.theory.specs.Machines.{Machine}
use Rattle.theory.specs.Feeds as F
use Rattle.integer.specs.Gain.{gain_bits, most_bits}
use Rattle.nonrecursive.specs.EitherKind as E
use Rattle.q15.specs.FirDecimator.{fir_valid_in_line}
use Rattle.float.specs.F32.{one32}
use Rattle.half_band.specs.HbfStream.{stream_refused_in_line}
use Rattle.float.specs.PolyphaseOpening as R
use Rattle.chain.specs.inner.Lending.{parts_in}
use Rattle.line.specs.Openings.{valid}
use Rattle.line.specs.Line.{of_counted, fed_line}
use Rattle.line.specs.declared.gauge_line.Line.{Line}
use Rattle.line.specs.declared.lent.LineNumbers.{LineNumbers}
use Rattle.chain.specs.declared.arrays.Arrays.{Arrays}
use Rattle.chain.specs.declared.clock.Clock.{Clock}
use Rattle.chain.specs.declared.fixed.Fixed.{Fixed}

-- m at the state p takes a: `out` is what it makes at once, and q its next state
abbrev pub Takes : {S A C : Type 0} → Machine S A C → S → A → Option C → S → Type 0
Takes m p a out q = (out ≡ m.now p a) × (q ≡ m.next p a)

-- the line
abbrev pub line_held : Fixed → Clock → Arrays → Line
line_held f c lent = of_counted (parts_in f c lent, c.cuts)

-- a step: its event, and the line after it
abbrev pub stepped_in : Fixed → F.Event Float → Clock → Arrays → F.Stepped Line Float
stepped_in f event c lent = record { event = event; line = line_held f c lent }

-- "An output is due when the resampler is on and mu < 1."
unfoldable pub due_at : Fixed → Float → Bool
due_at f mu = not (eqb f.settings.phases 0) && lt mu one32

-- row 15 of the line held apart
unfoldable pub valid_at : LineNumbers → List ℕ → Bool
valid_at n counts =
    let s = n.settings in
    let c = n.clock in
    (E.valid_at s.thinning s.stages s.r c.sample_counter && leb (gain_bits s.stages s.r) most_bits)
    && (fir_valid_in_line n.tap_count s.factor c.wait && (not (stream_refused_in_line s.depth counts) && R.valid_in_line_at s.phases s.phase_taps s.step c.mu))

-- what a feed of the line l left: the counts, the line k and the span are those of section 6's feed
pub record RanTo (l : Line) (xs : List ℤ) (before after : List Float) (taken written : ℕ) (k : Line) : Type 0 where
  pub took : taken ≡ (fed_line l xs (length before)).taken
  pub wrote : written ≡ length (fed_line l xs (length before)).written
  pub line : k ≡ (fed_line l xs (length before)).line
  pub span : after ≡ in_front (fed_line l xs (length before)).written before

-- how far a feed of the line l came, which is now the line k: what is done, and then what the feed does from there, is the whole feed
pub record Begun (l : Line) (xs : List ℤ) (before after : List Float) (taken written : ℕ) (k : Line) : Type 0 where
  pub some_taken : taken ≤ length xs
  pub some_written : written ≤ length before
  pub same : length after ≡ length before
  pub fine : valid k ≡ true
  pub rest : drop written after ≡ drop written before
  pub took : (fed_line l xs (length before)).taken ≡ taken + (fed_line k (drop taken xs) (length before - written)).taken
  pub wrote : (fed_line l xs (length before)).written ≡ take written after ++ (fed_line k (drop taken xs) (length before - written)).written
  pub line : (fed_line l xs (length before)).line ≡ (fed_line k (drop taken xs) (length before - written)).line
