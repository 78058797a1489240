-- What becomes of a text.
use Rattle.std.specs.Prelude.{◌≡◌, ◌≢◌, ◌+◌, ◌⊎◌, ℕ, List, [], ◌∷◌, Option, Some, None}
use Rattle.std.specs.Str.Pattern.{FindsChar}
use Rattle.answer_cache.specs.Seats.{SeatView}
use Rattle.sip_resolver.specs.Draws.{drawn}
use Rattle.sip_resolver.specs.Outcomes.{IsOutcome, Sought}
use Rattle.sip_resolver.specs.TargetLists.{TargetListView}
use Rattle.sip_fault.specs.Faults.{IsUriFault, IsViaFault}
use Rattle.sip_selection.specs.RequestLines.{BeginsVia, RequestText}
use Rattle.sip_selection.specs.declared.request.Request.{Request}
use Rattle.sip_uri.specs.declared.refusal.UriRefusal.TheVariants as uri
use Rattle.sip_report.specs.declared.line_outcome.LineOutcome.{LineOutcome}
use Rattle.sip_report.specs.declared.line_outcome.RequestFault.{RequestFault}
use Rattle.sip_report.specs.declared.line_outcome.LineOutcome.TheVariants.{Became, Tried, NoSuchName, TimeOver, Bad, NotText, Memory}
use Rattle.sipwhere.specs.declared.line.Line.{Line}
use Rattle.sipwhere.specs.declared.locate_settings.LocateSettings.{LocateSettings}
use Rattle.sip_resolver.specs.declared.outcome.Outcome.{Outcome}
use Rattle.sip_resolver.specs.declared.outcome.Outcome.TheVariants as outcome
use Rattle.sip_selection.specs.Requests.{target_of}
use Rattle.sip_selection.specs.declared.reason.Reason.TheVariants as reason
use Rattle.sip_uri.specs.declared.host.Host.{Host}
use Rattle.sip_uri.specs.declared.host.Host.TheVariants as host
use Rattle.sip_selection.specs.declared.request.Request.TheVariants.{Uri, Via}
use Rattle.sip_selection.specs.declared.target.Target.{Target}
use Rattle.sip_tries.specs.Turns.{AreTried}
use Rattle.sip_tries.specs.declared.tries.Extent.{Extent}
use Rattle.sip_tries.specs.declared.tries.Tries.{Tries}
use Rattle.sipwhere_options.specs.declared.pinging.Pinging.{Pinging}
use Rattle.sipwhere.specs.Denials.{IsDenied}
use Rattle.sipwhere.specs.Destinations.{IsDestination}
use Rattle.sipwhere.specs.declared.destination.Destination.TheVariants.{Located, Named}

-- no number that is made of a request tells one of two requests from the other
abbrev pub AreAlike : Sought → Sought → Type 0
AreAlike sought other = (measure : Sought → ℕ) → measure sought ≡ measure other

-- the outcome of a request that goes nowhere, as no server has an address
abbrev pub without_address : Outcome
without_address = outcome.Refused reason.NoAddress

-- the host of a request is a name of which a reply said that it does not exist
pub record IsMissing (gives : List ℕ → Type 0) (request : Request) (name : List (List ℕ)) : Type 0
  where
    pub host : target_of request ≡ host.Domain name
    pub denied : IsDenied gives name

-- ---- targets that are tried

-- how far targets are tried, by how they are pinged
abbrev pub extent_of : Option Pinging → Option Extent
extent_of None = None
extent_of (Some pinging) = Some pinging.extent

-- how far the targets of a request are tried: those of a response are not
abbrev pub extent_for : Option Extent → Request → Option Extent
extent_for extent (Uri uri) = extent
extent_for extent (Via via) = None

-- targets were tried so far, in their order (RFC 3263 4.3)
pub record AreTriedSo (list : TargetListView) (tries : Tries) : Type 0 where
  pub same : tries.targets.items ≡ list.targets
  pub host : tries.certificate_host ≡ list.certificate_host
  pub tried : AreTried tries.extent list.targets tries.tries.items

-- an outcome stands as it is: targets where they are not to be tried
abbrev pub Stays : Option Extent → Outcome → Type 0
Stays extent (outcome.Targets list) = extent ≡ None
Stays extent (outcome.Refused reason) = Unit {0}
Stays extent (outcome.NoAnswer question) = Unit {0}
Stays extent (outcome.NoServer question) = Unit {0}
Stays extent (outcome.BadReply question refusal) = Unit {0}
Stays extent outcome.Memory = Unit {0}

-- targets are tried exactly where they are to be, and so far
abbrev pub IsTriedBy : Option Extent → LineOutcome → Type 0
IsTriedBy extent (Became outcome) = Stays extent outcome
IsTriedBy extent (Tried tries) = extent ≡ Some tries.extent
IsTriedBy extent (NoSuchName name) = Unit {0}
IsTriedBy extent TimeOver = Unit {0}
IsTriedBy extent (Bad refusal) = Unit {0}
IsTriedBy extent NotText = Unit {0}
IsTriedBy extent Memory = Unit {0}

-- What may become of a request, at a seat: it is the choice of RFC 3263 4 and 5 over answers that
-- count, or the question whose answer is missing, as the resolver core says it. Nothing is said of
-- time and memory.
abbrev pub MayBecome : (List ℕ → Type 0) → (ℕ → Type 0) → SeatView → Sought → LineOutcome → Type 0
MayBecome gives shows seat asked (Became outcome) =
    (sought : Sought) × AreAlike sought asked × IsOutcome gives shows seat sought outcome
MayBecome gives shows seat asked (Tried tries) =
    (sought : Sought) × (list : TargetListView) × AreAlike sought asked
    × IsOutcome gives shows seat sought (outcome.Targets list) × AreTriedSo list tries
MayBecome gives shows seat asked (NoSuchName name) =
    (sought : Sought) × AreAlike sought asked × IsOutcome gives shows seat sought without_address
    × IsMissing gives asked.request name
MayBecome gives shows seat asked TimeOver = Unit {0}
MayBecome gives shows seat asked (Bad refusal) = ⊥
MayBecome gives shows seat asked NotText = ⊥
MayBecome gives shows seat asked Memory = Unit {0}

-- a text has the character that stands for octets that are no UTF-8 (U+FFFD)
abbrev pub HasReplacement : List ℕ → Type 0
HasReplacement text = (from : ℕ) × (until : ℕ) × FindsChar 65533 text (Some (from, until))

-- where the leftmost fault of a text stands that is no request: of a Via behind the four octets of
-- `Via:`, or of a URI
pub data IsRequestFault (text : List ℕ) (at : ℕ) : Type 0 where
  of_via : (rest : List ℕ) (behind : ℕ) → BeginsVia text rest → IsViaFault rest behind
      → at ≡ 4 + behind → IsRequestFault text at
  of_uri : ((rest : List ℕ) → BeginsVia text rest → ⊥) → IsUriFault text at
      → IsRequestFault text at

-- a text is no request: it spells none, so it was not for want of memory that it was refused; and
-- its octets are text
pub record IsNoRequest (text : List ℕ) (fault : RequestFault) : Type 0 where
  pub none : (request : Request) → RequestText text request → ⊥
  pub why : fault.refusal ≢ uri.Memory
  pub at : IsRequestFault text fault.at
  pub whole : FindsChar 65533 text None

-- a text is no request, and has octets that are no text
pub record IsNotText (text : List ℕ) : Type 0 where
  pub none : (request : Request) → RequestText text request → ⊥
  pub has : HasReplacement text

-- a text is a request
pub record IsRequest (text : List ℕ) : Type 0 where
  pub request : Request
  pub is : RequestText text request

-- A text asks for the targets of a request, of which this may become, under whatever number a
-- resolver had it. Its words are those of its own number.
pub record IsLocated (gives : List ℕ → Type 0) (shows : ℕ → Type 0) (seat : SeatView)
    (settings : LocateSettings) (words text : List ℕ) (line_outcome : LineOutcome) : Type 0 where
  pub request : Request
  pub is : IsDestination settings text (Located request)
  pub place : ℕ
  pub became : MayBecome gives shows seat
      (record {
        number = place;
        request = request;
        caps = settings.caps;
        words = words;
        until = None;
      })
      line_outcome
  pub tried : IsTriedBy (extent_for settings.extent request) line_outcome

-- this target alone, whose certificate has to be of this host
abbrev pub target_alone : Target → Host → Outcome
target_alone target host =
    outcome.Targets (record { targets = target ∷ []; certificate_host = host })

-- a text asks for a target that the parameters of its Via name, and the outcome is that target
pub record IsNamed (settings : LocateSettings) (text : List ℕ) (it : Outcome) : Type 0 where
  pub target : Target
  pub host : Host
  pub is : IsDestination settings text (Named target host)
  pub only : it ≡ target_alone target host

-- What may become of a line: it is no request; or it asks for the targets of a request, and this is
-- what becomes of that; or the parameters of its Via name its target. Of a request this may become
-- too that memory was refused.
abbrev pub IsLineOutcome : (List ℕ → Type 0) → (ℕ → Type 0) → SeatView → LocateSettings → Line
    → LineOutcome → Type 0
IsLineOutcome gives shows seat settings line (Bad refusal) = IsNoRequest line.text.now refusal
IsLineOutcome gives shows seat settings line NotText = IsNotText line.text.now
IsLineOutcome gives shows seat settings line Memory = IsRequest line.text.now
IsLineOutcome gives shows seat settings line (Became it) =
    IsLocated gives shows seat settings (drawn settings.key line.number) line.text.now (Became it)
    ⊎ IsNamed settings line.text.now it
IsLineOutcome gives shows seat settings line line_outcome =
    IsLocated gives shows seat settings (drawn settings.key line.number) line.text.now line_outcome

-- ---- where a fate comes from

-- the request that is submitted for a line, under whatever number
pub record IsOfLine (settings : LocateSettings) (line : Line) (sought : Sought) : Type 0 where
  pub is : IsDestination settings line.text.now (Located sought.request)
  pub caps : sought.caps ≡ settings.caps
  pub words : sought.words ≡ drawn settings.key line.number
  pub until : sought.until ≡ None

-- what became of a text of which no request was made: it is none, or memory was refused for it
abbrev pub IsUnread : List ℕ → LineOutcome → Type 0
IsUnread text (Became outcome) = ⊥
IsUnread text (Tried tries) = ⊥
IsUnread text (NoSuchName name) = ⊥
IsUnread text TimeOver = ⊥
IsUnread text (Bad refusal) = IsNoRequest text refusal
IsUnread text NotText = IsNotText text
IsUnread text Memory = IsRequest text

-- a text asks for the targets of a request
pub record IsToBeLocated (settings : LocateSettings) (text : List ℕ) : Type 0 where
  pub request : Request
  pub is : IsDestination settings text (Located request)

-- what became of a text of which no request is located: it is none, its Via names its target, or
-- memory was refused for it
abbrev pub IsReady : LocateSettings → List ℕ → LineOutcome → Type 0
IsReady settings text (Became it) = IsNamed settings text it
IsReady settings text (Tried tries) = ⊥
IsReady settings text (NoSuchName name) = ⊥
IsReady settings text TimeOver = ⊥
IsReady settings text (Bad refusal) = IsNoRequest text refusal
IsReady settings text NotText = IsNotText text
IsReady settings text Memory = IsRequest text

-- what became of a text without a reply: the same, or its time was over
abbrev pub NeedsNoReply : LocateSettings → List ℕ → LineOutcome → Type 0
NeedsNoReply settings text (Became it) = IsNamed settings text it
NeedsNoReply settings text (Tried tries) = ⊥
NeedsNoReply settings text (NoSuchName name) = ⊥
NeedsNoReply settings text TimeOver = IsToBeLocated settings text
NeedsNoReply settings text (Bad refusal) = IsNoRequest text refusal
NeedsNoReply settings text NotText = IsNotText text
NeedsNoReply settings text Memory = IsRequest text

-- a text is this request, and no other (RFC 3261 25.1)
pub record IsOnly (text : List ℕ) (request : Request) : Type 0 where
  pub is : RequestText text request
  pub only : (other : Request) → RequestText text other → request ≡ other

-- a text asks for the targets of this request, and for nothing else
pub record IsOnlyLocated (settings : LocateSettings) (text : List ℕ) (request : Request)
    : Type 0 where
  pub is : IsDestination settings text (Located request)
  pub only : (other : Request) → IsDestination settings text (Located other) → request ≡ other

-- what became of a text whose target this is, where memory was not refused
abbrev pub IsNamedAs : Target → Host → LineOutcome → Type 0
IsNamedAs target host (Became it) = it ≡ target_alone target host
IsNamedAs target host (Tried tries) = ⊥
IsNamedAs target host (NoSuchName name) = ⊥
IsNamedAs target host TimeOver = ⊥
IsNamedAs target host (Bad refusal) = ⊥
IsNamedAs target host NotText = ⊥
IsNamedAs target host Memory = Unit {0}

-- what becomes of targets that are tried so far, where memory was not refused
abbrev pub IsTriedOf : Extent → TargetListView → LineOutcome → Type 0
IsTriedOf extent targets (Tried tries) = (tries.extent ≡ extent) × AreTriedSo targets tries
IsTriedOf extent targets Memory = Unit {0}
IsTriedOf extent targets (Became it) = ⊥
IsTriedOf extent targets (NoSuchName name) = ⊥
IsTriedOf extent targets TimeOver = ⊥
IsTriedOf extent targets (Bad refusal) = ⊥
IsTriedOf extent targets NotText = ⊥

-- what becomes of targets: they are tried where they are to be
abbrev pub HasTargets : Option Extent → TargetListView → LineOutcome → Type 0
HasTargets None targets line_outcome = line_outcome ≡ Became (outcome.Targets targets)
HasTargets (Some extent) targets line_outcome = IsTriedOf extent targets line_outcome

-- the outcome of a request has targets, and they were tried
pub record IsTriedOutcome (extent : Option Extent) (it : Outcome) (tries : Tries) : Type 0 where
  pub targets : TargetListView
  pub has : it ≡ outcome.Targets targets
  pub so : AreTriedSo targets tries
  pub extent_is : extent ≡ Some tries.extent

-- what becomes of a request by its outcome: its targets are tried where they are to be; where no
-- server has an address, its host's name may be one that does not exist
abbrev pub EndsSo : (List ℕ → Type 0) → Option Extent → Request → Outcome → LineOutcome → Type 0
EndsSo gives extent request outcome (Became it) =
    (it ≡ outcome) × Stays (extent_for extent request) it
EndsSo gives extent request outcome (Tried tries) =
    IsTriedOutcome (extent_for extent request) outcome tries
EndsSo gives extent request outcome (NoSuchName name) =
    (outcome ≡ without_address) × IsMissing gives request name
EndsSo gives extent request outcome TimeOver = ⊥
EndsSo gives extent request outcome (Bad refusal) = ⊥
EndsSo gives extent request outcome NotText = ⊥
EndsSo gives extent request outcome Memory = Unit {0}

-- a text asks for the targets of a request that ended so
pub record IsEnded (gives : List ℕ → Type 0) (settings : LocateSettings) (text : List ℕ)
    (outcome : Outcome) (line_outcome : LineOutcome) : Type 0 where
  pub request : Request
  pub only : IsOnlyLocated settings text request
  pub ends : EndsSo gives settings.extent request outcome line_outcome

-- the request of a text ended so; or no request of the text is located
abbrev pub EndsAs : (List ℕ → Type 0) → LocateSettings → List ℕ → Outcome → LineOutcome → Type 0
EndsAs gives settings text outcome (Became it) =
    IsEnded gives settings text outcome (Became it) ⊎ IsNamed settings text it
EndsAs gives settings text outcome (Tried tries) = IsEnded gives settings text outcome (Tried tries)
EndsAs gives settings text outcome (NoSuchName name) =
    IsEnded gives settings text outcome (NoSuchName name)
EndsAs gives settings text outcome TimeOver = ⊥
EndsAs gives settings text outcome (Bad refusal) = IsNoRequest text refusal
EndsAs gives settings text outcome NotText = IsNotText text
EndsAs gives settings text outcome Memory = IsRequest text
