-- The octets of a request.
use Rattle.std.proofs.Common.{◌≡◌, ℕ, List, length, take, drop, refl, sym, ap, ◌∙◌, inl, inr, append_assoc}
use Rattle.std.specs.Cmp.Lexicographic.{same_text, other_text}
use Rattle.std.specs.Fmt.{decimal}
use Rattle.std.specs.Prelude.{codes}
use Rattle.std.specs.Str.{str_to_ascii_lowercase, str_eq_ignore_ascii_case}
use Rattle.std.proofs.lemmas.Bool.{cases_Bool}
use Rattle.std.proofs.lemmas.List.{take-append-drop, take_at}
use Rattle.sip_options.specs.Readers.Words.{BeginsWord}
use Rattle.sip_options.specs.Readers.Written.{text_of}
use Rattle.sip_options.specs.Requests.{contact_scheme, host_text, via_transport, contact_transport, token, branch_text, request_text}
use Rattle.sip_options.specs.declared.request.OptionsRequest.{OptionsRequest}
use Rattle.sip_options.proofs.WordTexts.{word_length}

pub secure_scheme : (uri rest : List ℕ) → BeginsWord (codes "sips:") uri rest → contact_scheme uri ≡ codes "sips:"
secure_scheme uri rest is =
    let size : length is.front ≡ 5 = word_length (codes "sips:") is.front (codes "sips:") is.is refl in
    let front : take 5 uri ≡ is.front = ap (λ (u : List ℕ). take 5 u) is.joined ∙ take_at is.front rest 5 size in
    let lower : str_to_ascii_lowercase (take 5 uri) ≡ str_to_ascii_lowercase (codes "sips:") = ap str_to_ascii_lowercase front ∙ is.is in
    elim (cases_Bool (str_eq_ignore_ascii_case (take 5 uri) (codes "sips:"))) [
      | inl same ↦ rw same refl
      | inr other ↦ absurd
          (other_text (str_to_ascii_lowercase (take 5 uri)) (str_to_ascii_lowercase (codes "sips:")) (sym other) lower)
    ]

pub plain_scheme : (uri : List ℕ) → ((rest : List ℕ) → BeginsWord (codes "sips:") uri rest → ⊥) → contact_scheme uri ≡ codes "sip:"
plain_scheme uri none' =
    elim (cases_Bool (str_eq_ignore_ascii_case (take 5 uri) (codes "sips:"))) [
      | inl same ↦ (
          let lower : str_to_ascii_lowercase (take 5 uri) ≡ str_to_ascii_lowercase (codes "sips:") =
          same_text (str_to_ascii_lowercase (take 5 uri)) (str_to_ascii_lowercase (codes "sips:")) (sym same) in
          absurd (none' (drop 5 uri) (record { front = take 5 uri; is = lower; joined = sym (take-append-drop 5 uri) })))
      | inr other ↦ rw other refl
    ]

-- the texts of a request
pub record TextsOf (request : OptionsRequest)
    (uri transport host port branch max_forwards from_tag call_id scheme parameter : List ℕ) : Type 0 where
  pub is_uri : uri ≡ request.uri.now
  pub is_transport : transport ≡ via_transport request.transport
  pub is_host : host ≡ host_text request.address
  pub is_port : port ≡ decimal request.port
  pub is_branch : branch ≡ branch_text request.branch
  pub is_count : max_forwards ≡ decimal request.max_forwards
  pub is_tag : from_tag ≡ token request.from_tag
  pub is_id : call_id ≡ token request.call_id
  pub is_scheme : scheme ≡ contact_scheme request.uri.now
  pub is_parameter : parameter ≡ contact_transport request.transport

pub written_is : (request : OptionsRequest) (uri transport host port branch max_forwards from_tag call_id scheme parameter : List ℕ)
    → TextsOf request uri transport host port branch max_forwards from_tag call_id scheme parameter
    → text_of uri transport host port branch max_forwards from_tag call_id scheme parameter ≡ request_text request
written_is request uri transport host port branch max_forwards from_tag call_id scheme parameter are =
    rw (
      are.is_uri,
      are.is_transport,
      are.is_host,
      are.is_port,
      are.is_branch,
      are.is_count,
      are.is_tag,
      are.is_id,
      are.is_scheme,
      are.is_parameter,
    ) (simp append_assoc)
