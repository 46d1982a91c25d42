-- `write_due` meets its contract: inside the limits it is that of the reading, which writes nothing from a mu of 1 on, and 16 places have room for T taps.
use Rattle.std.proofs.Common.{sym, ◌∙◌}
use Rattle.float.specs.inner.Running.{emitted_from}
use Rattle.float.proofs.DueOutputs.{none_due}
use Rattle.float.proofs.settings.Setting.write_due.Goals as goal

pub returns-then-not-in_limits : goal.returns-then-not-in_limits
unfolding emitted_from
returns-then-not-in_limits c = rw (sym c.in_limits.ensures ∙ c.if-not-in_limits.true)

pub returns-then-not-mu : goal.returns-then-not-mu
unfolding emitted_from
returns-then-not-mu c = rw (sym c.in_limits.ensures ∙ c.if-not-in_limits.false) (sym (none_due _ _ _ _ _ _ _ _ _ _ c.if-not-mu.true))

pub returns : goal.returns
unfolding emitted_from
returns c = rw (sym c.in_limits.ensures ∙ c.if-not-in_limits.false) (rw (c.of.ensures.1, c.of.ensures.0) at c.write_due.ensures)
