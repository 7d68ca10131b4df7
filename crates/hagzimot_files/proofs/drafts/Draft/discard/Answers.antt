use Rattle.hagzimot_files.proofs.DraftLemmas.{may_remove_keeps}
use Rattle.hagzimot_files.proofs.drafts.Draft.discard.Goals as goal

pub returns : goal.returns
returns g c = may_remove_keeps (g.F.Files.made_as c.args.self.file) (g.F.Files.calls c.args.files.now) (g.F.Files.calls c.give_up.new.files) c.give_up.ensures
