use Rattle.g4_guards.proofs.Meeting.{AreMeeting}
use Rattle.g4_guards.proofs.allowed.meeting.Given as goal

abbrev pub invariant-loop-before : goal.invariant-loop-before
invariant-loop-before l = AreMeeting l.net l.level l.targets l.before l.found.items
