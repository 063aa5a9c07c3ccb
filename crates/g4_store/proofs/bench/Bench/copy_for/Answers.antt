use Rattle.std.proofs.Common.{◌≡◌, sym, ap, ◌∙◌}
use Rattle.g4_store.specs.declared.view.View.{View}
use Rattle.g4_store.specs.Views.{guest_of, hosting, without_guest}
use Rattle.g4_store.proofs.Goings.{guest_row}
use Rattle.g4_store.proofs.bench.Bench.copy_for.Goals as goal

pub copy_row-content-requires : goal.copy_row-content-requires
copy_row-content-requires g c =
    let (x, known) = c.requires.row in (
      x,
      (guest_row c.args.self.now c.args.guest.me.0 c.host.new.self c.check.new.self c.requires.idle c.host.ensures c.check.ensures.same
          c.check.ensures.known c.args.row x known).0,
    )

pub returns-clause-seat : goal.returns-clause-seat
returns-clause-seat g c =
    let e = c.send_off-guest.ensures.guest in
    let r = c.requires in
    let v = c.args.guest.me.0 in
    let same : guest_of c.check.new.self ≡ v =
    ap guest_of (c.check.ensures.same ∙ c.host.ensures) ∙ (ap (λ (b : View _). guest_of (hosting b v)) r.idle ∙ sym r.guest.2) in
    (e.0, e.1 ∙ (λ i. (same i, sym r.guest.1 i)))

pub returns-clause-idle : goal.returns-clause-idle
returns-clause-idle g c =
    let r = c.requires in
    let v = c.args.guest.me.0 in
    c.send_off-guest.ensures.bench ∙ (ap without_guest (c.check.ensures.same ∙ c.host.ensures)
    ∙ (ap (λ (b : View _). without_guest (hosting b v)) r.idle ∙ sym r.idle))

pub returns-clause-content : goal.returns-clause-content
returns-clause-content g c = λ x known.
    c.copy_row-content.ensures x
    (guest_row c.args.self.now c.args.guest.me.0 c.host.new.self c.check.new.self c.requires.idle c.host.ensures c.check.ensures.same
    c.check.ensures.known c.args.row x known).0
