-- It refuses where the state is not valid. Else it makes the sums that the samples complete and the span has places for; where a place is left, the samples after
-- them complete no sum.
use Rattle.std.proofs.Common.{◌≡◌, List, ℤ, ◌++◌, take, drop, refl, ◌∙◌, take_all, length-append, length-drop, length-take-le, ◌+◌, ◌-◌, ◌*◌, ◌/◌, ◌<◌, ◌≤◌, min, ℕ, length, ap, le_trans, mul-le-mul_right, mod-lt, div-add-mod', div-mul-le_self, add-mul, one-mul, arith}
use Rattle.integer.proofs.Within.{accepted, sound, stages_within}
use Rattle.integer.proofs.Blocking.{full, all_taken}
use Rattle.integer.proofs.cic_decimator.block_at.Goals as goal

-- the sums made have their samples
enough : (count places r total : ℕ) → count ≡ min places (total / r) → count * r ≤ total
enough count places r total e =
    let l : count ≤ total / r = omega (arith, e) in
    le_trans (mul-le-mul_right r l) (div-mul-le_self total r)

-- where a place is left, the samples have no sum more, and all have a place
no_more : (count places r total : ℕ) → count ≡ min places (total / r) → 1 ≤ r → count < places → (total < count * r + r) × (total ≤ places * r)
no_more count places r total e some h =
    let q : count ≡ total / r = omega (arith, e) in
    let p : 0 < r = omega arith in
    let next : count + 1 ≤ places = omega arith in
    let less : total < count * r + r = omega (arith, ap (λ n. n * r) q, div-add-mod' total r, mod-lt total p) in
    (less, omega (arith, less, mul-le-mul_right r next, add-mul count 1 r, one-mul r))

pub invariant_of-settings : goal.invariant_of-settings
invariant_of-settings c =
    let n = sound _ _ _ (accepted _ c.in_ok-state_answer.ensures) in
    record { inside = (stages_within _ n.stages, (n.least, n.most)) }

pub sums-requires : goal.sums-requires
sums-requires c =
    let a = c.args in
    let t = c.saturating_sub-taken.result in
    let w = c.min-written.result in
    let n = sound _ _ _ (accepted _ c.in_ok-state_answer.ensures) in
    let lent : length (take t a.src.now) ≡ t = length-take-le t a.src.now (omega (arith, enough _ _ _ _ c.min-written.ensures, c.saturating_sub-taken.ensures)) in
    let places : length (take w a.dst.now) ≡ w = length-take-le w a.dst.now (omega (arith, c.min-written.ensures)) in
    (n.below, rw (lent, places) c.saturating_sub-taken.ensures)

pub overflow_add-src : goal.overflow_add-src
overflow_add-src c = let n = sound _ _ _ (accepted _ c.in_ok-state_answer.ensures) in omega (arith, n.most, n.below, c.well_formed)

pub nonzero_div-src : goal.nonzero_div-src
nonzero_div-src c = (sound _ _ _ (accepted _ c.in_ok-state_answer.ensures)).least

pub overflow_mul-written : goal.overflow_mul-written
overflow_mul-written c =
    let n = sound _ _ _ (accepted _ c.in_ok-state_answer.ensures) in
    omega (arith, enough _ _ _ _ c.min-written.ensures, n.most, n.below, c.well_formed)

pub overflow_add-sample_counter : goal.overflow_add-sample_counter
overflow_add-sample_counter c =
    let n = sound _ _ _ (accepted _ c.in_ok-state_answer.ensures) in
    omega (arith, enough _ _ _ _ c.min-written.ensures, c.saturating_sub-taken.ensures, n.most, n.below, c.well_formed)

pub overflow_mul-sample_counter : goal.overflow_mul-sample_counter
overflow_mul-sample_counter c =
    let n = sound _ _ _ (accepted _ c.in_ok-state_answer.ensures) in
    omega (arith, enough _ _ _ _ c.min-written.ensures, n.most, n.below, c.well_formed)

pub overflow_add-sample_counter-2 : goal.overflow_add-sample_counter-2
overflow_add-sample_counter-2 c =
    let n = sound _ _ _ (accepted _ c.in_ok-state_answer.ensures) in
    omega (arith, enough _ _ _ _ c.min-written.ensures, c.saturating_sub-taken.ensures, n.most, n.below, c.well_formed)

-- the span's length after a call on its front
span_long : (w : ℕ) (made dst : List ℤ) → length made ≡ w → w ≤ length dst → length (made ++ drop w dst) ≡ length dst
span_long w made dst e h = omega (arith, e, length-append made (drop w dst), length-drop w dst)

pub returns-then-written-dst : goal.returns-then-written-dst
returns-then-written-dst c =
    let a = c.args in
    let w = c.min-written.result in
    let t = c.saturating_sub-taken.result in
    let some : t ≤ length a.src.now = omega (arith, enough _ _ _ _ c.min-written.ensures, c.saturating_sub-taken.ensures) in
    let room : w ≤ length a.dst.now = omega (arith, c.min-written.ensures) in
    let lent : length (take t a.src.now) ≡ t = length-take-le t a.src.now some in
    let places : length (take w a.dst.now) ≡ w = length-take-le w a.dst.now room in
    let many : length c.sums.new.dst ≡ w = c.sums.auto.dst ∙ places in
    let all : w ≡ length a.dst.now = c.if-written-dst.true ∙ span_long w c.sums.new.dst a.dst.now many room in
    let left = rw (lent, places) at c.sums.ensures.state in
    let done =
    full _ _ _ _ _ (accepted _ c.in_ok-state_answer.ensures) a.src.now a.dst.now c.sums.new.dst t w _ c.sums.ensures.sums left many some all c.saturating_sub-taken.ensures
    in
    record { answer = done.0; span = done.1 }

pub returns : goal.returns
returns c =
    let a = c.args in
    let n = sound _ _ _ (accepted _ c.in_ok-state_answer.ensures) in
    let w = c.min-written.result in
    let t = c.saturating_sub-taken.result in
    let enough_samples = enough _ _ _ _ c.min-written.ensures in
    let some : t ≤ length a.src.now = omega (arith, enough_samples, c.saturating_sub-taken.ensures) in
    let room : w ≤ length a.dst.now = omega (arith, c.min-written.ensures) in
    let lent : length (take t a.src.now) ≡ t = length-take-le t a.src.now some in
    let places : length (take w a.dst.now) ≡ w = length-take-le w a.dst.now room in
    let many : length c.sums.new.dst ≡ w = c.sums.auto.dst ∙ places in
    let long = span_long w c.sums.new.dst a.dst.now many room in
    let free : w < length a.dst.now = omega (arith, c.if-written-dst.false, long, room) in
    let none = no_more _ _ _ _ c.min-written.ensures n.least free in
    let left = rw (lent, places) at c.sums.ensures.state in
    let rest : take (length a.src.now - t) (drop t a.src.now) ≡ drop t a.src.now = take_all _ _ (omega (arith, length-drop t a.src.now)) in
    let last = rw rest at c.run.ensures.0 in
    let few : a.sample_counter.now + t - w * a.r + (length a.src.now - t) < a.r = omega (arith, enough_samples, none.0, n.below, c.saturating_sub-taken.ensures) in
    let done =
    all_taken _ _ _ _ _ (accepted _ c.in_ok-state_answer.ensures) a.src.now a.dst.now c.sums.new.dst t w _ c.sums.ensures.sums left many some _ _ _ _ refl
    (omega (arith, none.1)) few last
    in
    record { answer = done.0; span = done.1 }
