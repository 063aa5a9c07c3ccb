use Rattle.std.proofs.Common.{[], rules, refl, sym, ◌∙◌}
use Rattle.std.proofs.lemmas.List.{append-nil}
use Rattle.std.proofs.lemmas.Bool.{false≢true}
use Rattle.g4_matching.specs.Expanding.{waiting_of}
use Rattle.g4_matching.proofs.Taking.{popped_sound, popped_known, going_begins, going_over, going_in, over_less, in_less, going_ended, grown_in}
use Rattle.g4_matching.proofs.expanding.Expanding.expand.Goals as goal

pub loop-entry-init : goal.loop-entry-init
loop-entry-init c = (going_begins _ _ _ _ _ c.requires.lexable c.requires.known refl c.clear.ensures, ([], sym (append-nil _)))

pub is_dropped-requires-clause-sound : goal.is_dropped-requires-clause-sound
is_dropped-requires-clause-sound c = popped_sound c.args.net.now c.loop-entry.self _ c.in-Some.entry c.loop-entry.invariant.0.sound
    (record { items = c.in-Some.ensures.items; returns = refl; all = refl; ends = refl })

pub is_dropped-requires-clause-known : goal.is_dropped-requires-clause-known
is_dropped-requires-clause-known c = popped_known c.args.net.now c.loop-entry.self
    (record {
      waiting = record { entries = c.pop.new.self; returns = c.loop-entry.self.waiting.returns };
      all = c.loop-entry.self.all;
      ends = c.loop-entry.self.ends;
    }) c.in-Some.entry c.loop-entry.invariant.0.sound
    (record { items = c.in-Some.ensures.items; returns = refl; all = refl; ends = refl })

pub loop-entry-smaller-then-is_dropped : goal.loop-entry-smaller-then-is_dropped
loop-entry-smaller-then-is_dropped c = over_less c.args.net.now c.args.last c.args.in_step (waiting_of c.args.self.now.waiting)
    c.loop-entry.self (record {
      waiting = record { entries = c.pop.new.self; returns = c.loop-entry.self.waiting.returns };
      all = c.loop-entry.self.all;
      ends = c.loop-entry.self.ends;
    }) c.in-Some.entry
    (record { items = c.in-Some.ensures.items; returns = refl; all = refl; ends = refl }) c.loop-entry.invariant.0

pub loop-entry-preserved-then-is_dropped : goal.loop-entry-preserved-then-is_dropped
loop-entry-preserved-then-is_dropped c = (
  going_over _ _ _ _ c.loop-entry.self _ c.in-Some.entry
      (record { items = c.in-Some.ensures.items; returns = refl; all = refl; ends = refl })
      (c.is_dropped.ensures.0 c.if-is_dropped.true) c.loop-entry.invariant.0,
  c.loop-entry.invariant.1,
)

pub take_in-requires-clause-sound : goal.take_in-requires-clause-sound
take_in-requires-clause-sound c = popped_sound c.args.net.now c.loop-entry.self _ c.in-Some.entry c.loop-entry.invariant.0.sound
    (record { items = c.in-Some.ensures.items; returns = refl; all = refl; ends = refl })

pub take_in-requires-clause-known : goal.take_in-requires-clause-known
take_in-requires-clause-known c = popped_known c.args.net.now c.loop-entry.self
    (record {
      waiting = record { entries = c.pop.new.self; returns = c.loop-entry.self.waiting.returns };
      all = c.loop-entry.self.all;
      ends = c.loop-entry.self.ends;
    }) c.in-Some.entry c.loop-entry.invariant.0.sound
    (record { items = c.in-Some.ensures.items; returns = refl; all = refl; ends = refl })

pub loop-entry-smaller : goal.loop-entry-smaller
loop-entry-smaller c = in_less c.args.net.now c.args.last c.args.in_step (waiting_of c.args.self.now.waiting) c.loop-entry.self
    (record {
      waiting = record { entries = c.pop.new.self; returns = c.loop-entry.self.waiting.returns };
      all = c.loop-entry.self.all;
      ends = c.loop-entry.self.ends;
    }) c.take_in.new.self c.in-Some.entry
    (record { items = c.in-Some.ensures.items; returns = refl; all = refl; ends = refl }) c.in_ok-take_in.ensures c.loop-entry.invariant.0

pub loop-entry-preserved : goal.loop-entry-preserved
loop-entry-preserved c = (
  going_in _ _ _ _ c.loop-entry.self _ _ c.in-Some.entry
      (record { items = c.in-Some.ensures.items; returns = refl; all = refl; ends = refl })
      (λ d. false≢true (sym c.if-is_dropped.false ∙ c.is_dropped.ensures.1 d)) c.in_ok-take_in.ensures c.loop-entry.invariant.0,
  grown_in _ _ _ c.loop-entry.self _ _ c.in-Some.entry
      (record { items = c.in-Some.ensures.items; returns = refl; all = refl; ends = refl }) c.in_ok-take_in.ensures
      c.loop-entry.invariant.1,
)

pub returns-clause-expanded : goal.returns-clause-expanded
returns-clause-expanded c = going_ended _ _ _ _ c.loop-entry.self (search rules) c.loop-entry.invariant.0
