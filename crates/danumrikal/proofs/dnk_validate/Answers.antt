use Rattle.danumrikal.proofs.dnk_validate.Goals as goal

pub returns : goal.returns
returns c = c.broken_rule.ensures
