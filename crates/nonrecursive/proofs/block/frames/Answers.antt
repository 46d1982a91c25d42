-- A turn is a chunk more, of frames that have their samples and places.
use Rattle.std.proofs.Common.{◌≡◌, ◌+◌, ◌-◌, ◌*◌, length, take, drop, sym, ◌∙◌, add-mul, arith, length-drop, length-take-le}
use borrow.Rule.Slice.PartMut.{put_mid, same_len_mid}
use Rattle.nonrecursive.specs.NonrecursiveDecimator.{nonrecursive}
use Rattle.nonrecursive.proofs.Chunks.{positive}
use Rattle.nonrecursive.proofs.InParts.{more_made}
use Rattle.nonrecursive.proofs.block.frames.Goals as goal

pub frames_in-count-requires : goal.frames_in-count-requires
frames_in-count-requires c = positive c.args.settings.stages c.args.settings.r c.args.settings.inside

pub loop-count-preserved : goal.loop-count-preserved
loop-count-preserved c =
    let a = c.args in
    let l = c.loop-count in
    let i = l.invariant in
    let e = c.frames_in-count-in-loop-count.ensures in
    let wide : l.written + l.count - l.written ≡ l.count = omega arith in
    let lent : l.taken + l.count * a.settings.r - l.taken ≡ l.count * a.settings.r = omega arith in
    let places : length (take l.count (drop l.written l.dst)) ≡ l.count = length-take-le l.count (drop l.written l.dst) (omega (arith, i.places, length-drop l.written l.dst)) in
    let long : length c.chunk.new.dst ≡ l.count = (rw wide at c.chunk.auto.dst) ∙ places in
    let sums = rw lent at c.chunk.ensures.sums in
    let left = rw lent at c.chunk.ensures.state in
    let more = more_made nonrecursive _ _ _ a.src.now a.dst.now l.dst c.chunk.new.dst l.taken l.written (l.count * a.settings.r) l.count i.made sums left long in
    let same : length (put_mid l.written l.count l.dst c.chunk.new.dst) ≡ length l.dst = same_len_mid l.written l.count l.dst c.chunk.new.dst (long ∙ sym places) in
    record {
      samples = omega (arith, e.0, i.samples);
      places = rw (wide, same) (omega (arith, e.1, i.places));
      few = e.2;
      paid = omega (arith, i.paid, add-mul l.written l.count a.settings.r);
      made = rw wide more;
    }
