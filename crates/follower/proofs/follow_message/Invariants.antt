-- `follower::follow_message` meets its contract: all slots passed hold message words. Assumes nothing.
use Rattle.follower.proofs.Going.{Going}
use Rattle.follower.proofs.follow_message.Given as goal

abbrev pub invariant-loop-e : goal.invariant-loop-e
invariant-loop-e l = Going l.words l.s l.initial.groups l.e l.groups
