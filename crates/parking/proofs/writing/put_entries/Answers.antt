-- Each entry has its place, as long as the settings make it, and nothing is left behind the last.
use Rattle.std.proofs.Common.{arith, refl}
use Rattle.parking.specs.Entries as E
use Rattle.parking.specs.Kept.{line_kept}
use Rattle.parking.proofs.LineSheet.{entries_put}
use Rattle.parking.proofs.writing.put_entries.Goals as goal

pub put_first-requires : goal.put_first-requires
unfolding E.settings_in
put_first-requires c = rw c.requires.1 at c.split_at_mut-first.ensures.front_len

pub put_fir-requires : goal.put_fir-requires
unfolding E.settings_in
put_fir-requires c = rw c.requires.1 at c.split_at_mut-fir.ensures.front_len

pub put_half_band-requires : goal.put_half_band-requires
unfolding E.settings_in
put_half_band-requires c = rw c.requires.1 at c.split_at_mut-half_band.ensures.front_len

pub put_resampler-requires : goal.put_resampler-requires
unfolding E.settings_in
put_resampler-requires c = rw c.requires.1 at c.split_at_mut-resampler.ensures.front_len

pub put_last-requires : goal.put_last-requires
unfolding E.settings_in
put_last-requires c =
    let a = c.split_at_mut-settings.ensures.back_len in
    let b = rw c.requires.1 at c.split_at_mut-first.ensures.back_len in
    let d = rw c.requires.1 at c.split_at_mut-fir.ensures.back_len in
    let e = rw c.requires.1 at c.split_at_mut-half_band.ensures.back_len in
    let f = rw c.requires.1 at c.split_at_mut-resampler.ensures.back_len in
    omega (arith, a, b, d, e, f, c.requires.2)

pub returns : goal.returns
returns c =
    entries_put (line_kept c.args.line.now.kept) c.args.line.now.fine _ _ _ _ _ _ _ refl (rw c.requires.0 at c.put_settings.ensures) c.put_first.ensures c.put_fir.ensures c.put_half_band.ensures c.put_resampler.ensures c.put_last.ensures
