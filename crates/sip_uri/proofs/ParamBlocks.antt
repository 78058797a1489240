-- What all parameters of a URI say is what their reader reads.
use Rattle.std.proofs.Common.{◌≡◌, ℕ, suc, ◌<◌, true, false, not, List, [], ◌∷◌, ◌++◌, length, map, get_or, Option, Some, None, Ok, is_some, IfSome, refl, sym, ap, ◌∙◌, inl, inr, arith, eqb}
use Rattle.std.specs.List.{AllByRecursion, AllPairs, join_with_byte}
use Rattle.std.specs.Option.{option_map, option_and_then}
use Rattle.std.specs.Str.{bytes_eq}
use Rattle.std.specs.Char.{is_ascii_hexdigit}
use Rattle.std.proofs.lemmas.Bool.{cases_Bool}
use Rattle.std.proofs.lemmas.Slice.Eq.{bytes_eq-Decides}
use Rattle.std.proofs.lemmas.List.{append-nil}
use Rattle.std.proofs.lemmas.List.Splits.{join_with_byte-slice_split, length-slice_split}
use Rattle.ip_text.specs.Parts.{behind, parted}
use Rattle.sip_uri.specs.Classes.{is_param_octet}
use Rattle.sip_uri.specs.Transports.{spoken_of}
use Rattle.sip_uri.specs.Uris.{IsSomeRun, Param, valued_text, param_text, key_of, transport_key, maddr_key, IsParam, value_at, HostValue, params_text}
use Rattle.sip_uri.specs.Readers.Hosts.{host}
use Rattle.sip_uri.specs.Readers.Params.{name_of, is_same, params_fault, value_of, transport_name, maddr_name}
use Rattle.sip_uri.specs.Readers.Uris.{said, said_unless, said_by}
use Rattle.sip_uri.specs.declared.host.Host.{Host}
use Rattle.sip_uri.specs.declared.transport.Spoken.{Spoken}
use Rattle.sip_uri.specs.declared.refusal.UriRefusal.{UriRefusal}
use Rattle.ip_text.proofs.Cutting.{lacks, back, parts-joined}
use Rattle.ip_text.proofs.Lists.{all-append, same_Ok}
use Rattle.sip_uri.proofs.RunTexts.{run_lacks}
use Rattle.sip_uri.proofs.Places.{host_read, host_again}
use Rattle.sip_uri.proofs.ParamTexts.{same_names, param_of, param_text-of, IsHosted, param_read, param_again, part_of, hosted_read, valued_of}
use Rattle.sip_uri.proofs.ParamLists.{Part, Differ, part_key, keys, Good, none_bad, good_none, value_of-at}

-- ---- the value of maddr

hosted_of : (parts : List (List ℕ)) (value : List ℕ) → AllByRecursion Part parts → value_of maddr_name parts ≡ Some value
    → is_some (host value) ≡ true
hosted_of [] value each e = absurd cc
hosted_of (part ∷ parts) value each e =
    elim (cases_Bool (is_same (name_of part) maddr_name)) [
      | inl is ↦ (
          let here : behind 61 part ≡ Some value = rw is at e in
          let hosted = hosted_read (name_of part) (behind 61 part) (valued_of part each.0) (same_names (name_of part) maddr_name is) in
          rw here at hosted)
      | inr no' ↦ hosted_of parts value each.1 (rw no' at e)
    ]

some_host : (value : List ℕ) (o : Option Host) → host value ≡ o → is_some o ≡ true → HostValue (Some value) o
some_host value None e is = absurd (let no : false ≡ true = is in cc)
some_host value (Some h) e is = host_read value h e

maddr_of : (parts : List (List ℕ)) (o : Option (List ℕ)) → AllByRecursion Part parts → value_of maddr_name parts ≡ o
    → HostValue o (option_and_then host o)
maddr_of parts None each e = tt
maddr_of parts (Some value) each e = some_host value (host value) refl (hosted_of parts value each e)

-- ---- texts

pub record ParamsRead (rest : Option (List ℕ)) (transport : Option Spoken) (maddr : Option Host) : Type 0 where
  pub params : List Param
  pub text : back 59 rest ≡ params_text params
  pub are : AllByRecursion IsParam params
  pub apart : AllPairs Differ (map key_of params)
  pub transport_is : transport ≡ option_map spoken_of (value_at transport_key params)
  pub maddr_is : HostValue (value_at maddr_key params) maddr

text_of_parts : (parts : List (List ℕ)) → 0 < length parts → params_text (map param_of parts) ≡ 59 ∷ join_with_byte 59 parts
text_of_parts [] some = absurd (omega arith)
text_of_parts (part ∷ []) some = append-nil (59 ∷ param_text (param_of part)) ∙ ap (λ (t : List ℕ). 59 ∷ t) (param_text-of part)
text_of_parts (part ∷ next ∷ parts) some =
    rw (text_of_parts (next ∷ parts) (omega arith))
    (ap (λ (t : List ℕ). 59 ∷ (t ++ 59 ∷ join_with_byte 59 (next ∷ parts))) (param_text-of part))

are_params : (parts : List (List ℕ)) → AllByRecursion Part parts → AllByRecursion IsParam (map param_of parts)
are_params [] each = tt
are_params (part ∷ parts) each = (param_read part each.0, are_params parts each.1)

keys_of_parts : (parts : List (List ℕ)) → keys parts ≡ map key_of (map param_of parts)
keys_of_parts [] = refl
keys_of_parts (part ∷ parts) = ap (λ (l : List (List ℕ)). part_key part ∷ l) (keys_of_parts parts)

hosted_at : (a b : Option (List ℕ)) (h : Option Host) → a ≡ b → HostValue a h → HostValue b h
hosted_at a b h e is = rw e at is

parts_read : (text : List ℕ) → params_fault (parted 59 text) ≡ None
    → ParamsRead (Some text) (option_map spoken_of (value_of transport_name (parted 59 text)))
    (option_and_then host (value_of maddr_name (parted 59 text)))
parts_read text e =
    let parts : List (List ℕ) = parted 59 text in
    let good = none_bad parts e in
    let some : 0 < length parts = omega (arith, length-slice_split (λ (x : ℕ). eqb x 59) text) in
    record {
      params = map param_of parts;
      text = sym (text_of_parts parts some ∙ ap (λ (t : List ℕ). 59 ∷ t) (join_with_byte-slice_split 59 text));
      are = are_params parts good.each;
      apart = rw keys_of_parts at good.apart;
      transport_is = ap (option_map spoken_of) (value_of-at transport_name transport_key refl parts);
      maddr_is = hosted_at (value_of maddr_name parts) (value_at maddr_key (map param_of parts))
          (option_and_then host (value_of maddr_name parts)) (value_of-at maddr_name maddr_key refl parts)
          (maddr_of parts (value_of maddr_name parts) good.each refl);
    }

unless_read : (text : List ℕ) (o : Option UriRefusal) (transport : Option Spoken) (maddr : Option Host) → params_fault (parted 59 text) ≡ o
    → said_unless (parted 59 text) o ≡ Ok (transport, maddr) → ParamsRead (Some text) transport maddr
unless_read text (Some fault) transport maddr e read = absurd cc
unless_read text None transport maddr e read =
    let same : said (parted 59 text) ≡ (transport, maddr) = same_Ok (said (parted 59 text)) (transport, maddr) read in
    let t = ap (λ (s : Option Spoken × Option Host). s.0) same in
    let m = ap (λ (s : Option Spoken × Option Host). s.1) same in
    rw (← t, ← m) (parts_read text e)

pub said_read : (rest : Option (List ℕ)) (transport : Option Spoken) (maddr : Option Host) → said_by rest ≡ Ok (transport, maddr)
    → ParamsRead rest transport maddr
unfolding said_by
said_read None transport maddr e =
    let same : ◌≡◌ {A = Option Spoken × Option Host} (None, None) (transport, maddr) = same_Ok (None, None) (transport, maddr) e in
    let t = ap (λ (s : Option Spoken × Option Host). s.0) same in
    let m = ap (λ (s : Option Spoken × Option Host). s.1) same in
    rw (← t, ← m)
    (record { params = []; text = refl; are = tt; apart = λ i j d lt within. absurd (omega arith); transport_is = refl; maddr_is = tt })
said_read (Some text) transport maddr e = unless_read text (params_fault (parted 59 text)) transport maddr refl e

-- ---- and back

none_named : (params : List Param)
    → ((k : ℕ) (d : List ℕ) → k < length (map key_of params) → Differ (get_or (map key_of params) k d) maddr_key)
    → AllByRecursion IsHosted params
none_named [] other = tt
none_named (param ∷ params) other =
    (λ is. absurd (other 0 [] (omega arith) is), none_named params (λ k d within same. other (suc k) d (omega arith) same))

tail_apart : (key : List ℕ) (all : List (List ℕ)) → AllPairs Differ (key ∷ all) → AllPairs Differ all
tail_apart key all apart = λ i j d lt within same. apart (suc i) (suc j) d (omega arith) (omega arith) same

head_apart : (key : List ℕ) (all : List (List ℕ)) → AllPairs Differ (key ∷ all) → (k : ℕ) (d : List ℕ) → k < length all
    → Differ (get_or all k d) key
head_apart key all apart k d within same = apart 0 (suc k) d (omega arith) (omega arith) (sym same)

hosted_here : (value : Option (List ℕ)) (maddr : Option Host) → HostValue value maddr → IfSome value (λ v. is_some (host v) ≡ true)
hosted_here None maddr is = tt
hosted_here (Some value) None is = absurd is
hosted_here (Some value) (Some h) is = rw (host_again value h is) refl

all_hosted : (params : List Param) (maddr : Option Host) → AllPairs Differ (map key_of params) → HostValue (value_at maddr_key params) maddr
    → AllByRecursion IsHosted params
all_hosted [] maddr apart is = tt
all_hosted (param ∷ params) maddr apart is =
    elim (cases_Bool (bytes_eq (key_of param) maddr_key)) [
      | inl named ↦ (
          let key : key_of param ≡ maddr_key = (bytes_eq-Decides (key_of param) maddr_key).0 named in
          let here : HostValue param.value maddr = rw named at is in (
            λ _. hosted_here param.value maddr here,
            none_named params (λ k d within same. head_apart (key_of param) (map key_of params) apart k d within (same ∙ sym key)),
          ))
      | inr other ↦ (
        λ key. absurd (let no : false ≡ true = sym other ∙ (bytes_eq-Decides (key_of param) maddr_key).1 key in cc),
        all_hosted params maddr (tail_apart (key_of param) (map key_of params) apart) (rw other at is),
      )
    ]

parts_of_params : (params : List Param) → AllByRecursion IsParam params → AllByRecursion IsHosted params
    → AllByRecursion Part (map param_text params)
parts_of_params [] are hosted = tt
parts_of_params (param ∷ params) are hosted = (param_again param are.0 hosted.0, parts_of_params params are.1 hosted.1)

same_param : (param : Param) → IsParam param → param_of (param_text param) ≡ param
same_param param is = let k = part_of param is in rw (k.0, k.1) refl

same_params : (params : List Param) → AllByRecursion IsParam params → map param_of (map param_text params) ≡ params
same_params [] are = refl
same_params (param ∷ params) are = rw (same_param param are.0) (ap (λ (l : List Param). param ∷ l) (same_params params are.1))

-- no separator stands in a parameter
module _ (octet : ℕ) (other : is_param_octet octet ≡ false) (no_digit : is_ascii_hexdigit octet ≡ false) (no_percent : eqb 37 octet ≡ false)
    (no_equals : eqb 61 octet ≡ false) where
  valued_lacks : (name : List ℕ) (value : Option (List ℕ)) → IsSomeRun is_param_octet name → IfSome value (λ v. IsSomeRun is_param_octet v)
      → lacks octet (valued_text name value) ≡ true
  valued_lacks name None is is' = run_lacks is_param_octet octet other no_digit no_percent name is.run
  valued_lacks name (Some value) is is' =
      all-append (λ (x : ℕ). not (eqb x octet)) name (61 ∷ value) (run_lacks is_param_octet octet other no_digit no_percent name is.run)
      (rw no_equals (run_lacks is_param_octet octet other no_digit no_percent value is'.run))

  pub params_lack : (params : List Param) → AllByRecursion IsParam params
      → AllByRecursion (λ (text : List ℕ). lacks octet text ≡ true) (map param_text params)
  params_lack [] are = tt
  params_lack (param ∷ params) are = (valued_lacks param.name param.value are.0.name are.0.value, params_lack params are.1)

  pub block_lacks : eqb 59 octet ≡ false → (params : List Param) → AllByRecursion IsParam params → lacks octet (params_text params) ≡ true
  block_lacks semicolon [] are = refl
  block_lacks semicolon (param ∷ params) are =
      rw semicolon (all-append
      (λ (x : ℕ). not (eqb x octet)) (param_text param) (params_text params)
      (valued_lacks param.name param.value are.0.name are.0.value) (block_lacks semicolon params are.1))

-- what follows the first `;`
abbrev pub block_of : List Param → Option (List ℕ)
block_of [] = None
block_of (param ∷ params) = Some (join_with_byte 59 (map param_text (param ∷ params)))

text_of_params : (param : Param) (params : List Param)
    → params_text (param ∷ params) ≡ 59 ∷ join_with_byte 59 (map param_text (param ∷ params))
text_of_params param [] = append-nil (59 ∷ param_text param)
text_of_params param (next ∷ params) = ap (λ (t : List ℕ). 59 ∷ (param_text param ++ t)) (text_of_params next params)

pub block_text : (params : List Param) → params_text params ≡ back 59 (block_of params)
block_text [] = refl
block_text (param ∷ params) = text_of_params param params

host_is : (value : Option (List ℕ)) (maddr : Option Host) → HostValue value maddr → option_and_then host value ≡ maddr
host_is None None is = refl
host_is None (Some h) is = absurd is
host_is (Some value) None is = absurd is
host_is (Some value) (Some h) is = host_again value h is

apart_at : (a b : List (List ℕ)) → a ≡ b → AllPairs Differ b → AllPairs Differ a
apart_at a b e apart = rw e apart

pub said_again : (params : List Param) (transport : Option Spoken) (maddr : Option Host) → AllByRecursion IsParam params
    → AllPairs Differ (map key_of params)
    → transport ≡ option_map spoken_of (value_at transport_key params) → HostValue (value_at maddr_key params) maddr
    → said_by (block_of params) ≡ Ok (transport, maddr)
unfolding said_by
said_again [] transport maddr are apart t m = rw (t, ← host_is None maddr m) refl
said_again (param ∷ params) transport maddr are apart t m =
    let all : List Param = param ∷ params in
    let parts : List (List ℕ) = map param_text all in
    let cut : parted 59 (join_with_byte 59 parts) ≡ parts =
    parts-joined 59 parts (omega arith) (params_lack 59 refl refl refl refl all are) in
    let same = same_params all are in
    let good : Good parts parts = record {
      each = parts_of_params all are (all_hosted all maddr apart m);
      apart = apart_at (keys parts) (map key_of all) (keys_of_parts parts ∙ ap (map key_of) same) apart;
    } in
    let t' : option_map spoken_of (value_of transport_name parts) ≡ transport =
    ap (option_map spoken_of) (value_of-at transport_name transport_key refl parts ∙ ap (value_at transport_key) same) ∙ sym t in
    let m' : option_and_then host (value_of maddr_name parts) ≡ maddr =
    ap (option_and_then host) (value_of-at maddr_name maddr_key refl parts ∙ ap (value_at maddr_key) same) ∙ host_is
    (value_at maddr_key all) maddr m in
    ap (λ (l : List (List ℕ)). said_unless l (params_fault l)) cut ∙ ap (said_unless parts) (good_none parts good) ∙ rw (t', m') refl
