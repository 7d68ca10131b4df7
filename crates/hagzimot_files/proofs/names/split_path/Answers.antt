use Rattle.std.proofs.Common.{Some, None, arith}
use Rattle.std.proofs.lemmas.Str.Pattern.{rfind_char}
use Rattle.hagzimot_files.proofs.NameLemmas.{split_at_slash, split_nowhere}
use Rattle.hagzimot_files.proofs.names.split_path.Goals as goal

pub returns-in-Some : goal.returns-in-Some
returns-in-Some c =
    let path = c.args.path.now in
    let found = rfind_char 47 path (Some c.in-Some.at) c.in-Some.ensures.cases (omega arith) in
    rw (c.split_at.ensures.front, c.split_at.ensures.back) (split_at_slash path c.in-Some.at found.0 found.1 found.2)

pub returns-in-None : goal.returns-in-None
returns-in-None c = split_nowhere c.args.path.now (rfind_char 47 c.args.path.now None c.in-None.ensures.cases (omega arith))
