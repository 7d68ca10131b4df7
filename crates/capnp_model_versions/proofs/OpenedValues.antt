-- Null pointers that are opened on the way of a call.
use Rattle.std.proofs.Common.{refl}
use Rattle.capnp_model.specs.Trees.{Tree, null, capability, structure, plain_list, pointer_list, struct_list}
use Rattle.capnp_model.specs.Trimming.{trim}
use Rattle.capnp_model.specs.Schemas.{Ty}
use Rattle.capnp_model.specs.Edits.{opened_tree}
use Rattle.capnp_model_versions.specs.Whole.{IsWhole}
use Rattle.capnp_model_versions.proofs.Alike.{Alike}

-- values of one trimmed value that are opened by one default
pub opened_alike : (ty ty' : Ty) (d t t' : Tree) → Alike t t' → IsWhole d → Alike (opened_tree ty d t) (opened_tree ty' d t')
unfolding trim
opened_alike ty ty' d null null a h = record { trims = refl; whole = h; whole' = h }
opened_alike ty ty' d null (capability i) a h = absurd (cc (a.trims))
opened_alike ty ty' d null (structure w m ts) a h = absurd (cc (a.trims))
opened_alike ty ty' d null (plain_list z m x) a h = absurd (cc (a.trims))
opened_alike ty ty' d null (pointer_list ts) a h = absurd (cc (a.trims))
opened_alike ty ty' d null (struct_list w p es) a h = absurd (cc (a.trims))
opened_alike ty ty' d (capability i) null a h = absurd (cc (a.trims))
opened_alike ty ty' d (structure w m ts) null a h = absurd (cc (a.trims))
opened_alike ty ty' d (plain_list z m x) null a h = absurd (cc (a.trims))
opened_alike ty ty' d (pointer_list ts) null a h = absurd (cc (a.trims))
opened_alike ty ty' d (struct_list w p es) null a h = absurd (cc (a.trims))
opened_alike ty ty' d t t' a h = a
