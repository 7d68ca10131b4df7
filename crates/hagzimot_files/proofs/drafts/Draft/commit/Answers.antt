use Rattle.std.proofs.Common.{is_some, string_bytes}
use Rattle.hagzimot_files.proofs.DraftLemmas.{unready, unnamed, unsynced, ended}
use Rattle.hagzimot_files.proofs.drafts.Draft.commit.Goals as goal

pub returns-in-Err-clause-kept : goal.returns-in-Err-clause-kept
returns-in-Err-clause-kept g c =
    (unready (g.F.Files.made_as c.args.self.file) (string_bytes c.args.self.path) (is_some c.args.self.folder) (g.F.Files.calls c.args.files.now) c.args.self.beside (g.F.Files.calls c.make_ready.new.files) (g.F.Files.calls c.give_up.new.files) c.in-Err.ensures.err c.give_up.ensures).0

pub returns-in-Err-clause-moments : goal.returns-in-Err-clause-moments
returns-in-Err-clause-moments g c =
    (unready (g.F.Files.made_as c.args.self.file) (string_bytes c.args.self.path) (is_some c.args.self.folder) (g.F.Files.calls c.args.files.now) c.args.self.beside (g.F.Files.calls c.make_ready.new.files) (g.F.Files.calls c.give_up.new.files) c.in-Err.ensures.err c.give_up.ensures).1

pub returns-in-Err-rename-clause-kept : goal.returns-in-Err-rename-clause-kept
returns-in-Err-rename-clause-kept g c =
    (unnamed (g.F.Files.made_as c.args.self.file) (string_bytes c.args.self.path) (is_some c.args.self.folder) (g.F.Files.calls c.args.files.now) c.args.self.beside c.is_some.result (g.F.Files.calls c.make_ready.new.files) (g.F.Files.calls c.rename.new.self) (g.F.Files.calls c.give_up-in-Err-rename.new.files) c.is_some.ensures c.in_default.ensures.ok c.in-Err-rename.ensures.err c.give_up-in-Err-rename.ensures).0

pub returns-in-Err-rename-clause-moments : goal.returns-in-Err-rename-clause-moments
returns-in-Err-rename-clause-moments g c =
    (unnamed (g.F.Files.made_as c.args.self.file) (string_bytes c.args.self.path) (is_some c.args.self.folder) (g.F.Files.calls c.args.files.now) c.args.self.beside c.is_some.result (g.F.Files.calls c.make_ready.new.files) (g.F.Files.calls c.rename.new.self) (g.F.Files.calls c.give_up-in-Err-rename.new.files) c.is_some.ensures c.in_default.ensures.ok c.in-Err-rename.ensures.err c.give_up-in-Err-rename.ensures).1

pub returns-in-Ok-clause-replaces : goal.returns-in-Ok-clause-replaces
returns-in-Ok-clause-replaces g c =
    (ended (g.F.Files.made_as c.args.self.file) (string_bytes c.args.self.path) (is_some c.args.self.folder) (g.F.Files.calls c.args.files.now) c.args.self.beside c.is_some.result c.as_str.result.now (g.F.Files.calls c.make_ready.new.files) (g.F.Files.calls c.rename.new.self) (g.F.Files.calls c.sync_names.new.files) c.is_some.ensures c.as_str.ensures.value c.in_default.ensures.ok c.in_default-rename.ensures.ok c.in-Ok.ensures.ok).0

pub returns-in-Ok-clause-lasts : goal.returns-in-Ok-clause-lasts
returns-in-Ok-clause-lasts g c =
    (ended (g.F.Files.made_as c.args.self.file) (string_bytes c.args.self.path) (is_some c.args.self.folder) (g.F.Files.calls c.args.files.now) c.args.self.beside c.is_some.result c.as_str.result.now (g.F.Files.calls c.make_ready.new.files) (g.F.Files.calls c.rename.new.self) (g.F.Files.calls c.sync_names.new.files) c.is_some.ensures c.as_str.ensures.value c.in_default.ensures.ok c.in_default-rename.ensures.ok c.in-Ok.ensures.ok).1

pub returns-in-Ok-clause-moments : goal.returns-in-Ok-clause-moments
returns-in-Ok-clause-moments g c =
    (ended (g.F.Files.made_as c.args.self.file) (string_bytes c.args.self.path) (is_some c.args.self.folder) (g.F.Files.calls c.args.files.now) c.args.self.beside c.is_some.result c.as_str.result.now (g.F.Files.calls c.make_ready.new.files) (g.F.Files.calls c.rename.new.self) (g.F.Files.calls c.sync_names.new.files) c.is_some.ensures c.as_str.ensures.value c.in_default.ensures.ok c.in_default-rename.ensures.ok c.in-Ok.ensures.ok).2

pub returns-clause-unsynced : goal.returns-clause-unsynced
returns-clause-unsynced g c =
    (unsynced (g.F.Files.made_as c.args.self.file) (string_bytes c.args.self.path) (is_some c.args.self.folder) (g.F.Files.calls c.args.files.now) c.args.self.beside c.is_some.result c.as_str.result.now (g.F.Files.calls c.make_ready.new.files) (g.F.Files.calls c.rename.new.self) (g.F.Files.calls c.sync_names.new.files) c.is_some.ensures c.as_str.ensures.value c.in_default.ensures.ok c.in_default-rename.ensures.ok c.in-Err-sync_names.ensures.err).0

pub returns-clause-moments : goal.returns-clause-moments
returns-clause-moments g c =
    (unsynced (g.F.Files.made_as c.args.self.file) (string_bytes c.args.self.path) (is_some c.args.self.folder) (g.F.Files.calls c.args.files.now) c.args.self.beside c.is_some.result c.as_str.result.now (g.F.Files.calls c.make_ready.new.files) (g.F.Files.calls c.rename.new.self) (g.F.Files.calls c.sync_names.new.files) c.is_some.ensures c.as_str.ensures.value c.in_default.ensures.ok c.in_default-rename.ensures.ok c.in-Err-sync_names.ensures.err).1
