-- The parts of the block, one after the other, are its feed.
use Rattle.std.proofs.Common.{◌≡◌, ℕ, ◌+◌, ◌-◌, ◌≤◌, List, ◌++◌, length, take, drop, ℤ, refl, ap, ◌∙◌, append-nil, arith, length-drop, drop_of_length-le, take_all}
use borrow.Rule.Slice.PartMut.{put_mid}
use Rattle.integer.proofs.Within.{accepted}
use Rattle.nonrecursive.specs.NonrecursiveDecimator.{nonrecursive_of}
use Rattle.nonrecursive.proofs.NonrecursiveStreaming.{valid_parts, valid_from}
use Rattle.nonrecursive.proofs.InParts.{in_parts}
use Rattle.nonrecursive.proofs.block.block_at.Goals as goal

-- a slice to the end, and what a call on it leaves
to_end : (a : ℕ) (l : List ℤ) → take (length l - a) (drop a l) ≡ drop a l
to_end a l = take_all (length l - a) (drop a l) (omega (arith, length-drop a l))

put_end : (a k : ℕ) (l new : List ℤ) → length l - a ≤ k → put_mid a k l new ≡ take a l ++ new
put_end a k l new h =
    ap (λ (z : List ℤ). take a l ++ (new ++ z)) (drop_of_length-le (drop a l) {i = k} (omega (arith, length-drop a l)))
    ∙ ap (λ (z : List ℤ). take a l ++ z) (append-nil new)

pub to_a_frame-head-requires : goal.to_a_frame-head-requires
to_a_frame-head-requires c = (valid_parts _ _ _ (accepted _ c.in_ok-state_answer.ensures)).1

pub invariant_of-settings : goal.invariant_of-settings
invariant_of-settings c =
    let ok = valid_parts _ _ _ (accepted _ c.in_ok-state_answer.ensures) in
    record { inside = valid_from _ _ 0 ok.0 (omega (arith, ok.1)) }

pub returns : goal.returns
returns c =
    let a = c.args in
    let xs = a.src.now in
    let first = c.one_by_one-begun in
    let framed = c.whole_frames-framed in
    let rest = c.one_by_one-rest in
    let t₁ = first.result.taken in
    let w₁ = first.result.written in
    let t₂ = framed.result.taken in
    let w₂ = framed.result.written in
    let span₁ = first.new.dst in
    let span₂ = put_mid w₁ (length span₁ - w₁) span₁ framed.new.dst in
    let span₃ = put_mid (w₁ + w₂) (length span₂ - (w₁ + w₂)) span₂ rest.new.dst in
    let counts = rw (to_end t₁ xs, to_end w₁ span₁) at framed.ensures.counts in
    let left = rw (to_end t₁ xs) at framed.ensures.state in
    let made = rw (to_end t₁ xs, to_end w₁ span₁) at framed.ensures.span in
    let last = rw (to_end (t₁ + t₂) xs, to_end (w₁ + w₂) span₂) at rest.ensures.feed in
    let put₂ = put_end w₁ _ span₁ framed.new.dst (omega arith) ∙ ap (λ (z : List ℤ). take w₁ span₁ ++ z) made.1 in
    let put₃ = put_end (w₁ + w₂) _ span₂ rest.new.dst (omega arith) ∙ ap (λ (z : List ℤ). take (w₁ + w₂) span₂ ++ z) last.3 in
    let done =
    in_parts a.stages a.r a.place.now a.neighbours.now (accepted _ c.in_ok-state_answer.ensures) xs a.dst.now c.to_a_frame-head.result t₁ w₁ t₂ w₂ rest.result.taken rest.result.written
    first.new.place first.new.neighbours _ _ (nonrecursive_of a.stages a.r framed.new.neighbours first.new.place) (nonrecursive_of a.stages a.r rest.new.neighbours rest.new.place)
    span₁ span₂ span₃ refl first.ensures.feed counts.0 counts.1 counts.2 left made.0 put₂ refl (last.0, last.1, last.2, put₃)
    in
    record { answer = done.0; span = done.1 }
