use Rattle.std.proofs.Common.{arith, rules, true≢false, sym, ◌∙◌, string_bytes}
use Rattle.std.proofs.lemmas.Str.Pattern.{starts_char}
use Rattle.hagzimot_files.proofs.NameLemmas.{absolute_link, relative_link}
use Rattle.hagzimot_files.proofs.names.linked_path.Goals as goal

pub returns-then-starts_with : goal.returns-then-starts_with
returns-then-starts_with c =
    let decides = starts_char 47 c.args.link.now c.starts_with.result c.starts_with.ensures.cases (omega arith) (omega arith) in
    absolute_link c.args.path.now c.args.link.now c.from_str.result (decides.0 c.if-starts_with.true) c.from_str.ensures.ok

pub returns : goal.returns
returns c =
    let decides = starts_char 47 c.args.link.now c.starts_with.result c.starts_with.ensures.cases (omega arith) (omega arith) in
    relative_link c.args.path.now c.split_path.result.0.now c.split_path.result.1.now c.args.link.now (string_bytes c.in_ok-format.field-0)
    (λ slash. true≢false (sym (decides.1 slash) ∙ c.if-starts_with.false)) c.split_path.ensures (search rules)
