-- Worked example: what the compiler gives to children in its own schema files.
use Rattle.std.proofs.Common.{◌≡◌, refl}
use Rattle.std.specs.Prelude.{codes}
use Rattle.md5.specs.Md5.{md5, digest_bytes, hash_after, compress, rounds, block_words}
use Rattle.capnp_source_ids.specs.Ids.{child_id}

-- rpc.capnp: Exception.Type, and PromisedAnswer.Op
exception_type : child_id 0xd625b7063acf691a (codes "Type") ≡ 0xb28c96e23f4cbd58
unfolding md5 digest_bytes hash_after compress rounds block_words
exception_type = refl

answer_op : child_id 0xd800b1d6cd6f1ca0 (codes "Op") ≡ 0xf316944415569081
unfolding md5 digest_bytes hash_after compress rounds block_words
answer_op = refl
