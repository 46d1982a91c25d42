-- A feed that only counts, turn by turn: between two turns of its loop, what is counted so far and then a feed from there is the whole feed. The samples up to and with
-- the one that brings a value are one turn.
use mathlib.Core.Path.{◌≡◌, refl, sym, ap, ap₂, ◌∙◌, subst}
use mathlib.Core.Bool.{true, false}
use Rattle.std.specs.Prelude.{Option, None, Some}
use Prim.Native.Nat.{ℕ, zero, suc, ◌+◌, ◌-◌, ◌*◌, ◌≤◌, ◌<◌}
use native.Mathlib.Nat.{suc-mul}
use native.Mathlib.Omega.{arith}
use borrow.Author.Tests.{lt-leb}
use lib.ListN.{length, replicate}
use Rattle.theory.specs.Feeds.{Fed, idle, wrote_then, took_then, feed, taking, follow}
use Rattle.theory.proofs.Feeds.{less, step_not}
use Rattle.theory.proofs.FeedLoop.{feed_follow}
use Rattle.theory.proofs.FeedRules.{feed_full, feed_due, feed_end}
use Rattle.plan.specs.inner.Ticking.{at_left, at_once, written_at_once, arrived, ticking, count_feed, Runs, CountedTo}
use Rattle.plan.specs.declared.counting.Clock.{Clock}
use Rattle.plan.specs.declared.counting.Pace.{Pace}

abbrev run : Clock → ℕ → ℕ → Fed Clock (Unit {0})
run c a n = feed ticking c (replicate a tt) n

-- none or one
abbrev one : Option (Unit {0}) → ℕ
one None = 0
one (Some u) = 1

run_take : (c : Clock) (a n : ℕ) → ticking.due c ≡ false → run c (suc a) (suc n) ≡ took_then (ticking.now c tt) (run (ticking.next c tt) a (less (ticking.now c tt) (suc n)))
run_take c a n d =
    feed_follow ticking c (replicate (suc a) tt) (suc n) (record { event = taking (ticking.now c tt); line = ticking.next c tt }) (sym (step_not ticking c (Some tt) d))
    ∙ go (ticking.now c tt)
  where
    go : (o : Option (Unit {0})) → follow ticking (feed ticking) (replicate (suc a) tt) (suc n) (ticking.next c tt) (taking o) ≡ took_then o (run (ticking.next c tt) a (less o (suc n)))
    go None = refl
    go (Some u) = refl

-- t samples are taken and w places written, and the clock is c
pub record Going (c₀ : Clock) (piece places : ℕ) (c : Clock) (t w : ℕ) : Type 0 where
  pub some_taken : t ≤ piece
  pub some_written : w ≤ places
  pub takes : (run c₀ piece places).taken ≡ t + (run c (piece - t) (places - w)).taken
  pub writes : length (run c₀ piece places).written ≡ w + length (run c (piece - t) (places - w)).written
  pub leaves : (run c₀ piece places).line ≡ (run c (piece - t) (places - w)).line

module _ (c₀ : Clock) (piece places : ℕ) (c : Clock) (t w : ℕ) (g : Going c₀ piece places c t w) where
  -- where the rest of the feed is known
  by :
      (t' w' : ℕ) (c' : Clock) (f h : Fed Clock (Unit {0})) → run c (piece - t) (places - w) ≡ f → f.taken + t ≡ h.taken + t' → length f.written + w ≡ length h.written + w'
      → f.line ≡ h.line → h ≡ run c' (piece - t') (places - w') → t' ≤ piece → w' ≤ places → Going c₀ piece places c' t' w'
  by t' w' c' f h e et ew el eh bt bw =
      let a = g.takes ∙ ap (λ (x : Fed Clock (Unit {0})). t + x.taken) e in
      let b = g.writes ∙ ap (λ (x : Fed Clock (Unit {0})). w + length x.written) e in
      let p : t + f.taken ≡ t' + h.taken = omega (arith, et) in
      let q : w + length f.written ≡ w' + length h.written = omega (arith, ew) in
      record {
        some_taken = bt;
        some_written = bw;
        takes = a ∙ p ∙ ap (λ (x : Fed Clock (Unit {0})). t' + x.taken) eh;
        writes = b ∙ q ∙ ap (λ (x : Fed Clock (Unit {0})). w' + length x.written) eh;
        leaves = g.leaves ∙ ap (λ (x : Fed Clock (Unit {0})). x.line) e ∙ el ∙ ap (λ (x : Fed Clock (Unit {0})). x.line) eh;
      }

  -- an output that is due
  pub going_due : ticking.due c ≡ true → w < places → Going c₀ piece places (ticking.after c) t (w + 1)
  going_due d l =
      let n : ℕ = places - (w + 1) in
      let p : places - w ≡ suc n = omega arith in
      let h : Fed Clock (Unit {0}) = run (ticking.after c) (piece - t) n in
      by t (w + 1) (ticking.after c) (wrote_then (ticking.val c) h) h (ap (run c (piece - t)) p ∙ feed_due ticking c (replicate (piece - t) tt) n d) refl (omega arith) refl refl
      g.some_taken (omega arith)

  going_take : ticking.due c ≡ false → w < places → t < piece → Going c₀ piece places (ticking.next c tt) (t + 1) (w + one (ticking.now c tt))
  going_take d l k =
      let n : ℕ = places - (w + 1) in
      let a : ℕ = piece - (t + 1) in
      let p : places - w ≡ suc n = omega arith in
      let q : piece - t ≡ suc a = omega arith in
      go (ticking.now c tt) n p (ap₂ {C = Fed Clock (Unit {0})} (run c) q p ∙ run_take c a n d)
    where
      go :
          (o : Option (Unit {0})) (n : ℕ) → places - w ≡ suc n → run c (piece - t) (places - w) ≡ took_then o (run (ticking.next c tt) (piece - (t + 1)) (less o (suc n)))
          → Going c₀ piece places (ticking.next c tt) (t + 1) (w + one o)
      go None n p r =
          let h : Fed Clock (Unit {0}) = run (ticking.next c tt) (piece - (t + 1)) (suc n) in
          let z : suc n ≡ places - (w + 0) = omega arith in
          by (t + 1) (w + 0) (ticking.next c tt) (took_then None h) h r (omega arith) (omega arith) refl (ap (run (ticking.next c tt) (piece - (t + 1))) z) (omega arith) (omega arith)
      go (Some u) n p r =
          let h : Fed Clock (Unit {0}) = run (ticking.next c tt) (piece - (t + 1)) n in
          let z : n ≡ places - (w + 1) = omega arith in
          by (t + 1) (w + 1) (ticking.next c tt) (took_then (Some u) h) h r (omega arith) (omega arith) refl (ap (run (ticking.next c tt) (piece - (t + 1))) z) (omega arith) (omega arith)

  done : Runs c → run c (piece - t) (places - w) ≡ idle c → CountedTo c₀ piece places t w c
  unfolding count_feed
  done r e =
      let a = g.takes ∙ ap (λ (x : Fed Clock (Unit {0})). t + x.taken) e in
      let b = g.writes ∙ ap (λ (x : Fed Clock (Unit {0})). w + length x.written) e in
      let p : t ≡ t + 0 = omega arith in
      let q : w ≡ w + 0 = omega arith in
      record { took = p ∙ sym a; wrote = q ∙ sym b; left = sym (g.leaves ∙ ap (λ (x : Fed Clock (Unit {0})). x.line) e); runs = r }

  -- the loop has ended: the span is full
  pub done_full : Runs c → places ≤ w → CountedTo c₀ piece places t w c
  done_full r l = done r (ap (run c (piece - t)) (let z : places - w ≡ 0 = omega arith in z) ∙ feed_full ticking c (replicate (piece - t) tt))

  -- or there are no samples
  done_dry : Runs c → ticking.due c ≡ false → piece ≤ t → CountedTo c₀ piece places t w c
  done_dry r d l = done r (ap (λ (a : ℕ). run c a (places - w)) (let z : piece - t ≡ 0 = omega arith in z) ∙ feed_end ticking c (places - w) d)

-- ---- the turns of the code's loop
module _ (c₀ : Clock) (piece places : ℕ) (c : Clock) (t w : ℕ) (g : Going c₀ piece places c t w) (d : ticking.due c ≡ false) (l : w < places) where
  still : (n : ℕ) → ticking.due (at_left c n) ≡ false
  unfolding ticking
  still n = d

  next_left : (n : ℕ) → 1 < n → ticking.next (at_left c n) tt ≡ at_left c (n - 1)
  unfolding ticking
  next_left n h = rw (lt-leb n 1 h) refl

  now_left : (n : ℕ) → 1 < n → ticking.now (at_left c n) tt ≡ None
  unfolding ticking
  now_left n h = rw (lt-leb n 1 h) refl

  -- k samples that bring no value
  quiet : (k : ℕ) → k < c.left → t + k ≤ piece → Going c₀ piece places (at_left c (c.left - k)) (t + k) w
  quiet zero h b =
      let e : c.left ≡ c.left - 0 = omega arith in
      let f : t ≡ t + 0 = omega arith in
      subst (λ (n : ℕ). Going c₀ piece places (at_left c n) (t + 0) w) e (subst (λ (n : ℕ). Going c₀ piece places c n w) f g)
  quiet (suc k) h b =
      let n : ℕ = c.left - k in
      let more : 1 < n = omega arith in
      let i = going_take c₀ piece places (at_left c n) (t + k) w (quiet k (omega arith) (omega arith)) (still n) l (omega arith) in
      let e : n - 1 ≡ c.left - suc k = omega arith in
      let f : t + k + 1 ≡ t + suc k = omega arith in
      let z : w + one (ticking.now (at_left c n) tt) ≡ w = ap (λ (o : Option (Unit {0})). w + one o) (now_left n more) ∙ (let q : w + 0 ≡ w = omega arith in q) in
      subst (λ (m : Clock). Going c₀ piece places m (t + suc k) w) (next_left n more ∙ ap (at_left c) e)
      (subst (λ (m : ℕ). Going c₀ piece places (ticking.next (at_left c n) tt) m w) f
      (subst (λ (m : ℕ). Going c₀ piece places (ticking.next (at_left c n) tt) (t + k + 1) m) z i))

  -- with a period's rest of samples a value comes
  pub going_value : 1 ≤ c.left → c.left ≤ piece - t → Going c₀ piece places (arrived c) (t + c.left) (w + written_at_once c.pace)
  going_value h b =
      let k : ℕ = c.left - 1 in
      let e : c.left - k ≡ 1 = omega arith in
      let q : Going c₀ piece places (at_left c 1) (t + k) w = subst (λ (n : ℕ). Going c₀ piece places (at_left c n) (t + k) w) e (quiet k (omega arith) (omega (arith, g.some_taken))) in
      let i = going_take c₀ piece places (at_left c 1) (t + k) w q (still 1) l (omega (arith, g.some_taken)) in
      let f : t + k + 1 ≡ t + c.left = omega arith in
      subst (λ (m : ℕ). Going c₀ piece places (arrived c) m (w + written_at_once c.pace)) f (value i)
    where
      one_by : (p : Option Pace) → one (at_once p) ≡ written_at_once p
      one_by None = refl
      one_by (Some p) = refl

      value : {n : ℕ} → Going c₀ piece places (ticking.next (at_left c 1) tt) n (w + one (ticking.now (at_left c 1) tt)) → Going c₀ piece places (arrived c) n (w + written_at_once c.pace)
      value {n} i = unfold ticking in subst (λ (m : ℕ). Going c₀ piece places (arrived c) n (w + m)) (one_by c.pace) i

  -- with fewer none does, and they end the feed
  pub done_rest : Runs c → piece - t < c.left → CountedTo c₀ piece places piece w (at_left c (c.left - (piece - t)))
  done_rest r h =
      let k : ℕ = piece - t in
      let f : t + k ≡ piece = omega (arith, g.some_taken) in
      let q = subst (λ (n : ℕ). Going c₀ piece places (at_left c (c.left - k)) n w) f (quiet k h (omega (arith, g.some_taken))) in
      done_dry c₀ piece places (at_left c (c.left - k)) piece w q (omega arith, r.1) (still (c.left - k)) (omega arith)

-- ---- before the first turn
pub begun : (c : Clock) (piece places : ℕ) → Going c piece places c 0 0
begun c piece places =
    let p : piece ≡ piece - 0 = omega arith in
    let q : places ≡ places - 0 = omega arith in
    let r : Fed Clock (Unit {0}) = run c (piece - 0) (places - 0) in
    let same : run c piece places ≡ r = ap₂ {C = Fed Clock (Unit {0})} (run c) p q in
    let t : r.taken ≡ 0 + r.taken = omega arith in
    let w : length r.written ≡ 0 + length r.written = omega arith in
    record {
      some_taken = omega arith;
      some_written = omega arith;
      takes = ap (λ (x : Fed Clock (Unit {0})). x.taken) same ∙ t;
      writes = ap (λ (x : Fed Clock (Unit {0})). length x.written) same ∙ w;
      leaves = ap (λ (x : Fed Clock (Unit {0})). x.line) same;
    }

-- ---- with no resampler each value is written as it comes: the first is `left` samples away, and each other `period` more
module _ (piece places left period : ℕ) (some : 1 ≤ left) (more : 1 ≤ period) where
  abbrev on_way : ℕ → Clock
  on_way n = record { left = n; period = period; pace = None }

  never_due : (n : ℕ) → ticking.due (on_way n) ≡ false
  unfolding ticking
  never_due n = refl

  pub come : (k : ℕ) → left + k * period ≤ piece → suc k ≤ places → Going (on_way left) piece places (on_way period) (left + k * period) (suc k)
  come zero h b =
      let i = going_value (on_way left) piece places (on_way left) 0 0 (begun (on_way left) piece places) (never_due left) (omega (arith, b)) some (omega (arith, h)) in
      let e : 0 + left ≡ left + 0 * period = omega arith in
      subst (λ (t : ℕ). Going (on_way left) piece places (on_way period) t 1) e i
  come (suc k) h b =
      let m = suc-mul k period in
      let p = come k (omega (arith, h, m)) (omega (arith, b)) in
      let i = going_value (on_way left) piece places (on_way period) (left + k * period) (suc k) p (never_due period) (omega (arith, b)) more (omega (arith, h, m)) in
      let e : left + k * period + period ≡ left + suc k * period = omega (arith, m) in
      let f : suc k + 1 ≡ suc (suc k) = omega arith in
      subst (λ (t : ℕ). Going (on_way left) piece places (on_way period) t (suc (suc k))) e (subst (Going (on_way left) piece places (on_way period) (left + k * period + period)) f i)

  -- all places are written
  pub full : (k : ℕ) → left + k * period ≤ piece → suc k ≡ places → CountedTo (on_way left) piece places (left + k * period) (suc k) (on_way period)
  full k h e = done_full (on_way left) piece places (on_way period) (left + k * period) (suc k) (come k h (omega (arith, e))) (more, more) (omega (arith, e))

  -- or places are left, and the samples behind the last value bring none
  pub spent : (k : ℕ) → left + k * period ≤ piece → suc k < places → piece - (left + k * period) < period
      → CountedTo (on_way left) piece places piece (suc k) (on_way (period - (piece - (left + k * period))))
  spent k h b l =
      done_rest (on_way left) piece places (on_way period) (left + k * period) (suc k) (come k h (omega (arith, b))) (never_due period) b (more, more) l
