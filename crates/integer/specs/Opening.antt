-- 01's table, rows 1, 2 and 15, as both CIC converters have them: an opening, and a number asked of a state.
use Rattle.std.specs.Prelude.{ℕ, Bool, cond}
use Rattle.refusal.specs.Outcome.{Answer, Opened}
use Rattle.integer.specs.Limits.{stages_ok, factor_ok}

abbrev pub opened_as : {S : Type 0} → ℕ → S → Opened S
opened_as n s = record { number = n; state = s }

-- `fresh N r` is the converter of N stages and factor r with zero in every sum; "a refused opening's state is all zeros"
unfoldable pub opening : {S : Type 0} → (ℕ → ℕ → S) → ℕ → ℕ → Opened S
opening fresh N r = cond (stages_ok N) (cond (factor_ok r) (opened_as 0 (fresh N r)) (opened_as 2 (fresh 0 0))) (opened_as 1 (fresh 0 0))

-- the number of the settings' refusal, 0 where they are opened
unfoldable pub settings_number : ℕ → ℕ → ℕ
settings_number N r = cond (stages_ok N) (cond (factor_ok r) 0 2) 1

-- `gain` and `gain_bits`: a number where the state is valid
unfoldable pub on_state : Bool → ℕ → Answer ℕ
on_state valid n = cond valid (record { number = 0; value = n }) (record { number = 15; value = 0 })
