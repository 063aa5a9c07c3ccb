use Rattle.g4_load.proofs.interpreter.Interpreter.with_flags.Goals as goal

pub returns-clause-usable : goal.returns-clause-usable
returns-clause-usable c = λ u. record
    { rewritable = u.rewritable; parsing = u.parsing; loops = u.loops; lexable = u.lexable; types = u.types }
