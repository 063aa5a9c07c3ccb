use Rattle.std.proofs.Common.{rules}
use Rattle.g4_preds.specs.declared.piece.Piece.TheVariants.{Blank}
use Rattle.g4_preds.proofs.Pieces.{begun, piece_at, nothing_at, literal_answers}
use Rattle.g4_preds.proofs.piece.read_piece.Goals as goal

pub returns-then-is_blank-clause-value : goal.returns-then-is_blank-clause-value
returns-then-is_blank-clause-value c = piece_at c.args.text.now _ c.c-item.result Blank
    (begun c.args.text.now c.c-item.result c.in-len1-up.len_at_least c.c-item.is) (search rules)

pub returns-in_ok-name-clause-value : goal.returns-in_ok-name-clause-value
returns-in_ok-name-clause-value c = piece_at c.args.text.now _ c.c-item.result c.in_ok-name.name
    (begun c.args.text.now c.c-item.result c.in-len1-up.len_at_least c.c-item.is) (search rules)

pub returns-then-is_one_to_eight-clause-value : goal.returns-then-is_one_to_eight-clause-value
returns-then-is_one_to_eight-clause-value c =
    piece_at c.args.text.now _ c.c-item.result _ (begun c.args.text.now c.c-item.result c.in-len1-up.len_at_least c.c-item.is)
    (search rules)

pub returns-then-c-eq39-clause-value : goal.returns-then-c-eq39-clause-value
returns-then-c-eq39-clause-value c = literal_answers c.args.text.now _ c.c-item.result c.literal_piece.result
    (begun c.args.text.now c.c-item.result c.in-len1-up.len_at_least c.c-item.is) (search rules) c.literal_piece.ensures.value

pub returns-in-Some-clause-value : goal.returns-in-Some-clause-value
returns-in-Some-clause-value c = piece_at c.args.text.now _ c.c-item.result c.in-Some.piece
    (begun c.args.text.now c.c-item.result c.in-len1-up.len_at_least c.c-item.is) (search rules)

pub returns-in-None-clause-value : goal.returns-in-None-clause-value
returns-in-None-clause-value c = λ p is. nothing_at c.args.text.now _ c.c-item.result p
    (begun c.args.text.now c.c-item.result c.in-len1-up.len_at_least c.c-item.is) (search rules) is
