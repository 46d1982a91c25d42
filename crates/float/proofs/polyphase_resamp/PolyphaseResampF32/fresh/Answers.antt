-- `fresh` meets its contract: as many of the prototype as there are places stand in front, and zeros behind them (`packed_front`).
use Rattle.std.proofs.Common.{◌≡◌, ◌++◌, ◌-◌, ℕ, length, take, replicate, ap, refl, ◌∙◌, arith, length-take}
use Rattle.float.specs.F32.{zero32, one32}
use Rattle.float.specs.PolyphaseOpening.{fresh}
use Rattle.float.specs.PolyphaseResamp.{state_of}
use Rattle.float.proofs.Packing.{packed_front}
use Rattle.float.proofs.polyphase_resamp.PolyphaseResampF32.fresh.Goals as goal

pub returns : goal.returns
unfolding fresh
returns c =
    let a = c.args in
    let h = a.prototype.now in
    let n = c.min-count.result in
    let long : length (take n h) ≡ n = omega (arith, length-take n h, c.min-count.ensures) in
    ap (state_of a.setting one32 (replicate 16 zero32))
    (c.padded.ensures.fits (omega (arith, long, c.min-count.ensures)) ∙ ap (λ (k : ℕ). take n h ++ replicate (1024 - k) zero32) long ∙ packed_front h (take n h) n c.min-count.ensures refl)
