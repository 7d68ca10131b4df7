-- Older fields in the order of a newer node's. (Schema language, "Evolving Your Protocol")
use Rattle.std.specs.Prelude.{ℕ, zero, suc, ◌≡◌, Bool, true, false, ◌||◌, List}
use Rattle.capnp_model.specs.Schemas.{Fields, no_fields, field}
use Rattle.capnp_model.specs.Partners.{is_partner}

-- The first n fields.
abbrev pub first_fields : ℕ → Fields → Fields
first_fields zero fs = no_fields
first_fields (suc k) no_fields = no_fields
first_fields (suc k) (field l m b fs) = field l m b (first_fields k fs)

-- The fields behind these.
abbrev pub fields_behind : ℕ → Fields → Fields
fields_behind zero fs = fs
fields_behind (suc k) no_fields = no_fields
fields_behind (suc k) (field l m b fs) = fields_behind k fs

-- What is due behind a newer field of a name, where these older fields were.
abbrev pub due_behind : Fields → List ℕ → Fields
due_behind no_fields l' = no_fields
due_behind (field l m b fs) l' = elim (is_partner l l') [ true ↦ fs | false ↦ field l m b fs ]

-- The older fields that are due behind newer ones: all but the first that have their partners among these, in order.
abbrev pub due : Fields → Fields → Fields
due fs no_fields = fs
due fs (field l' m' b' fs') = due (due_behind fs l') fs'

-- Behind n newer fields the older field of this place is due.
abbrev pub IsDue : Fields → Fields → ℕ → ℕ → Type 0
IsDue fs fs' i k = due fs (first_fields k fs') ≡ fields_behind i fs

-- One of the newer fields is the partner of an older one of this name.
abbrev pub has_partner : List ℕ → Fields → Bool
has_partner l no_fields = false
has_partner l (field l' m' b' fs') = is_partner l l' || has_partner l fs'
