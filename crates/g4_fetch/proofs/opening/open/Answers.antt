use Rattle.std.proofs.Common.{ℕ, List, Ok, sym, subst}
use Rattle.g4_ports.specs.declared.ports.Got.TheVariants.{Bytes, Absent, TooLarge}
use Rattle.g4_fetch.specs.Files.{Opens, there}
use Rattle.g4_fetch.proofs.Opened.{told_file, absent_file, large_file}
use Rattle.g4_fetch.proofs.opening.open.Goals as goal

pub returns-in-Bytes-clause-content : goal.returns-in-Bytes-clause-content
returns-in-Bytes-clause-content g c = λ files told.
    subst (λ (bs : List ℕ). Opens files c.args.name.now (Ok bs)) (sym c.new.ensures)
    (there c.in-Bytes.bytes (told_file _ files c.args.name.now (Bytes c.in-Bytes.bytes) told c.in-Bytes.ensures.content)
    c.in-Bytes.ensures.sized)

pub returns-in_ok-copy_of-in-Absent-clause-content : goal.returns-in_ok-copy_of-in-Absent-clause-content
returns-in_ok-copy_of-in-Absent-clause-content g c = λ files told.
    absent_file files c.args.name.now c.in_ok-copy_of-in-Absent.field-0 c.in_ok-copy_of-in-Absent.ensures
    (told_file _ files c.args.name.now Absent told c.in-Absent.ensures.content)

pub returns-in_ok-copy_of-in-TooLarge-clause-content : goal.returns-in_ok-copy_of-in-TooLarge-clause-content
returns-in_ok-copy_of-in-TooLarge-clause-content g c = λ files told.
    large_file files c.args.name.now c.in_ok-copy_of-in-TooLarge.field-0 c.in-TooLarge.size c.in_ok-copy_of-in-TooLarge.ensures
    (told_file _ files c.args.name.now (TooLarge c.in-TooLarge.size) told c.in-TooLarge.ensures.content) c.in-TooLarge.ensures.sized
