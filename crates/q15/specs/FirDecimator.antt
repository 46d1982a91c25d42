-- 01, section 3, the line's streaming form: "makes output i when sample iD+T−1 arrives; its wait is the number of samples up to and with the one that makes
-- the next output, T at opening and D after each output; T is at most 64, D may exceed T. In the line no taps means off, and D is not looked at." Only there:
-- beside the line no taps is refused by 6, as row 6 has it, and the zeros that a refused opening leaves answer 15.
use Rattle.std.specs.Prelude.{◌≡◌, Bool, true, false, not, ◌&&◌, cond, List, ◌++◌, map, ℕ, zero, suc, ◌-◌, leb, ltb, eqb, ℤ, pos, length, set, take, drop, replicate, Option, None, Some, Result}
use Rattle.std.specs.Int.{w16}
use Rattle.theory.specs.Lists.{padded_to}
use Rattle.refusal.specs.declared.Refusal.{Refusal}
use Rattle.refusal.specs.Outcome.{Outcome, Opened, number_in, value_in}
use Rattle.theory.specs.Sections.{Section, outs, state}
use Rattle.q15.specs.Fixed.{is_cut}
use Rattle.q15.specs.Block.{fir_number}
use Rattle.q15.specs.PolyphaseDecimate.{window_sum, fir_sums, filtered, decimated}
use Rattle.q15.specs.Rounding.{Rounded}
use Rattle.q15.specs.declared.fir_decimator.FirDecimator.{FirDecimator}
use Rattle.q15.specs.declared.fixed.Cut.{Cut}

-- 02, request 7: "The line's FIR limit goes from 64 to 128, so refusal 6 moves there."
abbrev pub most_taps : ℕ
most_taps = 128

-- a state, by T and D, the taps with what lies behind them, the delay and the wait
abbrev pub fir_state : List ℤ → ℕ → ℕ → List ℤ → ℕ → FirDecimator
fir_state c T D d w = record { taps = c; tap_count = T; factor = D; delay = d; wait = w }

-- "opened as zeros, settings too": off, or refused
abbrev pub fir_zeros : FirDecimator
fir_zeros = fir_state (replicate most_taps (pos 0)) 0 0 (replicate most_taps (pos 0)) 0

-- a sample that belongs to the window of the next output takes its place in the delay
unfoldable pub stored : ℕ → ℕ → ℤ → List ℤ → List ℤ
stored T w x d = cond (leb w T) (set d (T - w) x) d

-- after an output the window moves down by D; what lies behind it stays
unfoldable pub moved : ℕ → ℕ → List ℤ → List ℤ
moved T D d = take (T - D) (drop D d) ++ drop (T - D) d

-- the delay with the sample at its place
abbrev pub taking : FirDecimator → ℤ → List ℤ
taking s x = stored s.tap_count s.wait x s.delay

-- the part as a section on the bits: off, it hands each value on; a state of more taps than that has no window, and nothing comes of it; else the sample that the
-- wait was for makes an output
unfoldable pub fir_next : FirDecimator → ℤ → FirDecimator
fir_next s x =
    cond (eqb s.tap_count 0) s
    (cond (ltb most_taps s.tap_count) s
    (cond (leb s.wait 1) (fir_state s.taps s.tap_count s.factor (moved s.tap_count s.factor (taking s x)) s.factor)
    (fir_state s.taps s.tap_count s.factor (taking s x) (s.wait - 1))))

unfoldable pub fir_out : FirDecimator → ℤ → Option ℤ
fir_out s x =
    cond (eqb s.tap_count 0) (Some x)
    (cond (ltb most_taps s.tap_count) None (cond (leb s.wait 1) (Some (filtered s.taps s.tap_count (taking s x) 0)) None))

-- 02, §4: the sum that a sample makes, before it is cut; off, there is none
unfoldable pub fir_sum_out : FirDecimator → ℤ → Option ℤ
fir_sum_out s x =
    cond (eqb s.tap_count 0) None
    (cond (ltb most_taps s.tap_count) None (cond (leb s.wait 1) (Some (window_sum s.taps s.tap_count (taking s x) 0)) None))

abbrev pub summing : Section FirDecimator ℤ ℤ
summing = record { next = fir_next; out = fir_sum_out }

-- whether a sum was cut, where there is one
abbrev pub cut_in : Option ℤ → Bool
cut_in None = false
cut_in (Some z) = is_cut w16 z

abbrev pub fir : Section FirDecimator ℤ ℤ
fir = record { next = fir_next; out = fir_out }

-- rows 5 and 6 beside the line: taps "over" the most that the state holds
unfoldable pub settings_number : ℕ → ℕ → ℕ
settings_number T D = fir_number most_taps D T

-- in the line "no taps means off, and D is not looked at", so that of row 6 "only over" the limit is left
unfoldable pub settings_number_in_line : ℕ → ℕ → ℕ
settings_number_in_line T D = cond (eqb T 0) 0 (settings_number T D)

-- row 15: "FIR wait 0 or above both T and D"
unfoldable pub bad_wait : ℕ → ℕ → ℕ → Bool
bad_wait T D w = cond (eqb w 0) true (ltb T w && ltb D w)

-- row 15 beside the line: "settings that its opening refuses; FIR wait .."; so the zeros of a refused opening are refused too
unfoldable pub fir_valid : ℕ → ℕ → ℕ → Bool
fir_valid T D w = cond (eqb (settings_number T D) 0) (not (bad_wait T D w)) false

-- row 15 in the line, where no taps means off and "a part that is off is not checked"
unfoldable pub fir_valid_in_line : ℕ → ℕ → ℕ → Bool
fir_valid_in_line T D w = cond (eqb T 0) true (fir_valid T D w)

abbrev pub valid : FirDecimator → Bool
valid s = fir_valid s.tap_count s.factor s.wait

abbrev pub valid_in_line : FirDecimator → Bool
valid_in_line s = fir_valid_in_line s.tap_count s.factor s.wait

-- what comes of a sample, and whether it was cut
pub record Filtered : Type 0 where
  pub made : Option ℤ
  pub cut : Bool

-- one sample beside the line: "any call on a state" answers 15 first
abbrev pub fir_step : FirDecimator → ℤ → Outcome Filtered FirDecimator
fir_step s x =
    cond (valid s) (record { number = 0; value = record { made = fir_out s x; cut = cut_in (fir_sum_out s x) }; state = fir_next s x })
    (record { number = 15; value = record { made = None; cut = false }; state = s })

-- the taps, and zeros behind them
unfoldable pub padded : List ℤ → List ℤ
padded c = padded_to most_taps (pos 0) c

-- "T at opening", and no samples yet
unfoldable pub fresh : List ℤ → ℕ → FirDecimator
fresh c D = fir_state (padded c) (length c) D (replicate most_taps (pos 0)) (length c)

-- in the line, where no taps means off: "opened as zeros, settings too"
unfoldable pub fresh_in_line : List ℤ → ℕ → FirDecimator
fresh_in_line c D = cond (eqb (length c) 0) fir_zeros (fresh c D)

-- "a refused opening's state is all zeros"
abbrev pub opened_by : ℕ → List ℤ → ℕ → FirDecimator
opened_by zero c D = fresh c D
opened_by (suc q) c D = fir_zeros

abbrev pub fir_opened : List ℤ → ℕ → Opened FirDecimator
fir_opened c D = record { number = settings_number (length c) D; state = opened_by (settings_number (length c) D) c D }

-- "Reset equals a fresh opening", of the taps and the factor that the state has; 15 on a bad state, which stays
abbrev pub fir_reset : FirDecimator → Opened FirDecimator
fir_reset s = cond (valid s) (fir_opened (take s.tap_count s.taps) s.factor) (record { number = 15; state = s })

-- what came of a sample in the code's terms, and whether that was cut
abbrev pub made_value : Option Cut → Option ℤ
made_value None = None
made_value (Some y) = Some y.value.0

abbrev pub made_cut : Option Cut → Bool
made_cut None = false
made_cut (Some y) = y.cut

-- a sample's result, and the state that it leaves
abbrev pub told_step : Result (Option Cut) Refusal → FirDecimator → Outcome Filtered FirDecimator
told_step r s = record { number = number_in r; value = record { made = made_value (value_in None r); cut = made_cut (value_in None r) }; state = s }

-- the steps as a caller sees them, one after the other
abbrev pub steps : Section FirDecimator ℤ ℤ
steps = record { next = λ s x. (fir_step s x).state; out = λ s x. (fir_step s x).value.made }

-- whether each output was cut, likewise
abbrev pub flagged : Option ℤ → Bool → Option Bool
flagged None b = None
flagged (Some y) b = Some b

abbrev pub flags : Section FirDecimator ℤ Bool
flags = record { next = λ s x. (fir_step s x).state; out = λ s x. flagged (fir_step s x).value.made (fir_step s x).value.cut }

-- section 3 of a whole list in the line, as the block has it: "A part that is off hands its list on unchanged"
unfoldable pub fir_whole : List ℤ → ℕ → List ℤ → List ℤ
fir_whole c D w = cond (eqb (length c) 0) w (decimated c D w)

-- what a state is good for that an opening of the taps c and the factor D did not refuse
pub record Streams (c : List ℤ) (D : ℕ) (s : FirDecimator) : Type 0 where
  -- over any list, so after every sample, its outputs are the block's for the list so far: output i comes with sample iD+T−1
  pub outputs : (w : List ℤ) → outs steps s w ≡ decimated c D w
  -- 02, §4: and cut are those of them that the block cuts
  pub cuts : (w : List ℤ) → outs flags s w ≡ map (is_cut w16) (fir_sums c D w)
  -- 02, §8: and before cutting each is off by what rounding its products down takes
  pub rounding : (w : List ℤ) → Rounded c D w
  -- no sample after the opening is refused
  pub never_refused : (w : List ℤ) (x : ℤ) → (fir_step (state steps s w) x).number ≡ 0
