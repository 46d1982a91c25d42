-- Each stage lies in the entry, and what it has takes its places.
use Rattle.std.proofs.Common.{◌≡◌, ◌+◌, ◌*◌, ◌-◌, ◌≤◌, ◌<◌, arith, length, take, drop, add-one, append_assoc, sym, ap, ◌∙◌, ◌++◌, ℕ, List, Float}
use lib.ListN.{length-take, length-drop}
use lib.Seq.{length-take-le, drop-drop}
use Rattle.sheet.specs.Laid.{laid}
use Rattle.words.specs.Fields.{f32_at, values_at}
use Rattle.parking.specs.Parked.{half_band_bytes}
use Rattle.parking.specs.Entries.{window_of, counts_from, held_from, delays_from}
use Rattle.parking.proofs.StageLengths.{bytes_most}
use Rattle.parking.proofs.WholeFloats.{window_most}
use Rattle.words.proofs.Fields.{values_length}
use Rattle.taking_up.proofs.Again.{delays_long}
use Rattle.taking_up.proofs.Rooms.{stage_room}
use Rattle.taking_up.proofs.parked.Parked.read_half_band.Goals as goal

-- room for a stage, in few bytes
few : (n k a L : ℕ) → n ≤ 5 → k < n → a ≡ half_band_bytes k → L ≡ half_band_bytes n → (a + (6 + 4 * window_of k) ≤ L) × (L ≤ 750)
few n k a L h l e f = (rw e (stage_room n k L h l f), rw f (bytes_most n h))

pub overflow_add-at : goal.overflow_add-at
overflow_add-at c = let f = few _ c.loop-k.k _ _ c.args.self.limits.depth c.loop-k-test.true c.half_band_bytes-at.ensures c.args.self.long.half_band in omega arith

pub overflow_add-at-in-loop-k : goal.overflow_add-at-in-loop-k
overflow_add-at-in-loop-k c = let f = few _ c.loop-k.k _ _ c.args.self.limits.depth c.loop-k-test.true c.half_band_bytes-at.ensures c.args.self.long.half_band in omega arith

pub get_all-requires : goal.get_all-requires
get_all-requires c =
    let f = few _ c.loop-k.k _ _ c.args.self.limits.depth c.loop-k-test.true c.half_band_bytes-at.ensures c.args.self.long.half_band in
    let t = length-take (96 * c.loop-k.k + c.window.result - 96 * c.loop-k.k) (drop (96 * c.loop-k.k) c.loop-k.delays) in
    omega (arith, c.window.ensures)

pub loop-k-preserved : goal.loop-k-preserved
unfolding counts_from held_from delays_from laid
loop-k-preserved c =
    let i = c.loop-k.invariant in
    let k = c.loop-k.k in
    let d = c.loop-k.delays in
    let long : length d ≡ 480 = ap (λ (z : List Float). length z) i.delays ∙ delays_long c.args.self.e.half_band.now k (let h = c.args.self.limits.depth in omega arith) in
    let m = window_most k (let h = c.args.self.limits.depth in omega arith) in
    let w : 96 * k + c.window.result - 96 * k ≡ window_of k = omega (arith, c.window.ensures) in
    let g = length-drop (96 * k) d in
    let t : length (take (window_of k) (drop (96 * k) d)) ≡ window_of k = length-take-le (window_of k) (drop (96 * k) d) (omega (arith, long)) in
    let v : List Float = values_at f32_at 4 c.args.self.e.half_band.now (half_band_bytes k + 6) (window_of k) in
    record {
      counts = rw (add-one k, c.from.ensures, c.le16_at.ensures, c.half_band_bytes-at.ensures, i.counts);
      held = rw (add-one k, c.f32_of_bits.ensures, c.le32_at.ensures, c.half_band_bytes-at.ensures, i.held);
      delays = rw (add-one k, c.get_all.ensures, w, t, c.half_band_bytes-at.ensures, ← i.delays, values_length f32_at 4 c.args.self.e.half_band.now (window_of k) (half_band_bytes k + 6)) (sym (append_assoc (take (96 * k) d) v (drop (window_of k) (drop (96 * k) d))) ∙ ap (λ (z : List Float). (take (96 * k) d ++ v) ++ z) (drop-drop (window_of k) (96 * k) d));
    }
