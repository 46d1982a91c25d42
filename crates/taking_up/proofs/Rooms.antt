-- What the functions that read a parked sheet go by: where a half-band stage lies.
use mathlib.Core.Path.{◌≡◌}
use Prim.Native.Nat.{ℕ, suc, ◌+◌, ◌*◌, ◌≤◌, ◌<◌}
use native.Mathlib.Omega.{arith}
use Rattle.parking.specs.Parked.{half_band_bytes}
use Rattle.parking.specs.Entries.{window_of}
use Rattle.parking.proofs.Back.{bytes_more}
use Rattle.parking.proofs.StageLengths.{bytes_mono}

pub stage_room : (n k L : ℕ) → n ≤ 5 → k < n → L ≡ half_band_bytes n → half_band_bytes k + (6 + 4 * window_of k) ≤ L
stage_room n k L h l e =
    let m = bytes_more k (omega arith) in
    let t = bytes_mono (suc k) n h l in
    omega arith
