use Rattle.std.proofs.Common.{Some, None, arith}
use Rattle.std.proofs.lemmas.Str.Pattern.{rfind_char}
use Rattle.hagzimot_files.proofs.NameLemmas.{folder_at, folder_at_root, folder_here}
use Rattle.hagzimot_files.proofs.names.folder_of.Goals as goal

pub returns-in-Some-eq0 : goal.returns-in-Some-eq0
returns-in-Some-eq0 c =
    let path = c.args.path.now in
    let found = rfind_char 47 path (Some c.in-Some-eq0.field-0) c.in-Some-eq0.ensures.cases (omega arith) in
    folder_at_root path c.in-Some-eq0.field-0 (omega arith) found.0 found.1 found.2

pub returns-in-Some : goal.returns-in-Some
returns-in-Some c =
    let path = c.args.path.now in
    let found = rfind_char 47 path (Some c.in-Some.at) c.in-Some.ensures.cases (omega arith) in
    rw c.split_at.ensures.front (folder_at path c.in-Some.at found.0 found.1 found.2)

pub returns-in-None : goal.returns-in-None
returns-in-None c = folder_here c.args.path.now (rfind_char 47 c.args.path.now None c.in-None.ensures.cases (omega arith))
