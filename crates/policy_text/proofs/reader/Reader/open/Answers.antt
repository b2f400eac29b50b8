use Rattle.std.proofs.Common.{sym, ◌∙◌}
use Rattle.policy_text.proofs.Calling.{opened}
use Rattle.policy_text.proofs.reader.Reader.open.Goals as goal

pub returns-then-not-self : goal.returns-then-not-self
returns-then-not-self c = λ p holds some. opened p _ holds.says tt (sym holds.called ∙ c.if-not-self.true) some c.lay_out-self.ensures
