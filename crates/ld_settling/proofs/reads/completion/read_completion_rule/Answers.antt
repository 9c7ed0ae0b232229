use Rattle.ld_settling.proofs.reads.completion.read_completion_rule.Goals as goal

pub returns-in-WhenConditionTrue-clause-gathers : goal.returns-in-WhenConditionTrue-clause-gathers
returns-in-WhenConditionTrue-clause-gathers g c = rw (c.in-WhenConditionTrue.is) c.read_users.ensures.gathers

pub returns-in-WhenConditionTrue-clause-short : goal.returns-in-WhenConditionTrue-clause-short
returns-in-WhenConditionTrue-clause-short g c = rw (c.in-WhenConditionTrue.is) c.read_users.ensures.short

pub returns-in-WhenConditionTrue-clause-cost : goal.returns-in-WhenConditionTrue-clause-cost
returns-in-WhenConditionTrue-clause-cost g c = rw (c.in-WhenConditionTrue.is) c.read_users.ensures.cost
