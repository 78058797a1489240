-- What the readers of parameters give, as functions on lists.
use Rattle.std.specs.Prelude.{◌≡◌, ℕ, ◌%◌, Bool, true, false, not, length, slice_index_or, ◌&&◌, ◌||◌, List, [], ◌∷◌, ◌++◌, Option, Some, None, is_some, if◌then◌else◌}
use Rattle.std.specs.List.{AllByRecursion, list_any}
use Rattle.std.specs.Str.{str_eq_ignore_ascii_case}
use Rattle.ip_text.specs.Parts.{before, behind}
use Rattle.sip_uri.specs.Classes.{is_param_octet}
use Rattle.sip_uri.specs.Readers.Runs.{is_some_run}
use Rattle.std.specs.Option.{option_and_then}
use Rattle.sip_uri.specs.Readers.Hosts.{host}
use Rattle.sip_uri.specs.declared.host.Host.{Host}
use Rattle.sip_uri.specs.declared.refusal.UriRefusal.{UriRefusal}
use Rattle.sip_uri.specs.declared.refusal.UriRefusal.TheVariants.{BadParam, RepeatedParam}

-- `transport` and `maddr`
abbrev pub transport_name : List ℕ
transport_name = 116 ∷ 114 ∷ 97 ∷ 110 ∷ 115 ∷ 112 ∷ 111 ∷ 114 ∷ 116 ∷ []

abbrev pub maddr_name : List ℕ
maddr_name = 109 ∷ 97 ∷ 100 ∷ 100 ∷ 114 ∷ []

abbrev pub name_of : List ℕ → List ℕ
name_of param = before 61 param

abbrev pub is_same : List ℕ → List ℕ → Bool
is_same name other = str_eq_ignore_ascii_case name other

-- the host that a value spells, where its name is `maddr`
abbrev pub maddr_of : List ℕ → Option (List ℕ) → Option Host
maddr_of name value = if is_same name maddr_name then option_and_then host value else None

unfoldable pub is_value_of : List ℕ → List ℕ → Bool
is_value_of name value =
    is_some_run is_param_octet value && (not (is_same name maddr_name) || is_some (host value))

-- whether the value, or none, may stand after the name
abbrev pub is_valued : List ℕ → Option (List ℕ) → Bool
is_valued name None = not (is_same name transport_name) && not (is_same name maddr_name)
is_valued name (Some value) = is_value_of name value

-- whether they are a parameter
abbrev pub is_param_of : List ℕ → Option (List ℕ) → Bool
is_param_of name value = is_some_run is_param_octet name && is_valued name value

abbrev pub is_param : List ℕ → Bool
is_param param = is_param_of (name_of param) (behind 61 param)

abbrev pub has_name : List (List ℕ) → List ℕ → Bool
has_name earlier name = list_any (λ (other : List ℕ). is_same (name_of other) name) earlier

abbrev pub stands_in : List (List ℕ) → List ℕ → Bool
stands_in earlier param = has_name earlier (name_of param)

-- the length of each name is marked, modulo 64
abbrev pub AreMarked : List Bool → List (List ℕ) → Type 0
AreMarked lengths earlier =
    AllByRecursion
    (λ (param : List ℕ). slice_index_or lengths (length (name_of param) % 64) false ≡ true) earlier

-- the first fault of parameters after earlier ones
abbrev pub fault_behind : List (List ℕ) → List (List ℕ) → Option UriRefusal
fault_behind earlier [] = None
fault_behind earlier (param ∷ params) =
    if not (is_param param) then Some BadParam else
    (if stands_in earlier param then Some RepeatedParam
    else fault_behind (earlier ++ param ∷ []) params)

abbrev pub params_fault : List (List ℕ) → Option UriRefusal
params_fault params = fault_behind [] params

abbrev pub value_of : List ℕ → List (List ℕ) → Option (List ℕ)
value_of name [] = None
value_of name (param ∷ params) =
    if is_same (name_of param) name then behind 61 param else value_of name params

-- the value that was found before, or else that of a further parameter, if it has the name
abbrev pub value_so_far : Option (List ℕ) → List ℕ → List ℕ → Option (List ℕ) → Option (List ℕ)
value_so_far (Some found) wanted name value = Some found
value_so_far None wanted name value = if is_same name wanted then value else None
