-- 02, §13: "From fresh states it gives, sample after sample, what the CIC decimator gives", of the lines opened with the one and with the other.
use Rattle.std.specs.Prelude.{◌≡◌, List, ℕ, ℤ, Float}
use Rattle.nonrecursive.specs.declared.thinning.Thinning.{Thinning}
use Rattle.line.specs.Outputs.{Opening}
use Rattle.line.specs.Line.{feed_outcome, feed_span}
use Rattle.line.specs.Demand3.{History, line_of}

-- the same opening, of the kind k
abbrev pub of_kind : Thinning → Opening → Opening
of_kind k o =
    record {
      settings =
          record {
            stages = o.settings.stages;
            r = o.settings.r;
            factor = o.settings.factor;
            depth = o.settings.depth;
            phases = o.settings.phases;
            phase_taps = o.settings.phase_taps;
            straight = o.settings.straight;
            step = o.settings.step;
            thinning = k;
          };
      taps = o.taps;
      prototype = o.prototype;
    }

-- after any list of feeds, a feed more answers the same counts and leaves the same span, and the counts of cut values are the same
pub record SameFeeds (o p : Opening) : Type 0 where
  pub counts : (h : History) (xs : List ℤ) (places : ℕ) → (feed_outcome (line_of o h) xs places).value ≡ (feed_outcome (line_of p h) xs places).value
  pub spans : (h : History) (xs : List ℤ) (span : List Float) → feed_span (line_of o h) xs span ≡ feed_span (line_of p h) xs span
  pub cuts : (h : History) → (line_of o h).cuts ≡ (line_of p h).cuts
