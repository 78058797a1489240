-- Lines of replies, one after the other, and what is known after them.
use Rattle.std.proofs.Common.{◌≡◌, ℕ, ◌+◌, ◌<◌, List, [], ◌∷◌, ◌++◌, length, take, drop, get_or, Option, Some, None, refl, sym, ap, ◌∙◌, arith}
use Rattle.std.specs.List.{AllZip}
use Rattle.std.specs.Option.{option_and_then}
use Rattle.std.proofs.lemmas.List.{drop_more, take_more, drop_all, take_all, take-append-drop}
use Rattle.dns_message.specs.declared.message.Message.{Message}
use Rattle.sip_selection.specs.declared.request.Request.{Request}
use Rattle.sip_selection.specs.declared.caps.Families.{Families}
use Rattle.sip_selection.specs.Choice.{Resolution}
use Rattle.sip_selection.specs.Known.{Given}
use Rattle.siplocate_one.specs.Talks.{goes, told, talk, talk_from}
use Rattle.siplocate_one.specs.declared.reply.BadReply.{BadReply}
use Rattle.siplocate_one.specs.Replies.{ReplyLine, IsFault, FailsAt}

carried : (f g : Given → Option (List Given)) (x y : List Given) (o : Option Given) → ((k : Given) → f k ≡ Some x → g k ≡ Some y)
    → option_and_then f o ≡ Some x → option_and_then g o ≡ Some y
carried f g x y None h e = absurd cc
carried f g x y (Some k) h e = h k e

-- an option that leads to something is something
led : (f : Given → Option (List Given)) (x : List Given) (o : Option Given) → option_and_then f o ≡ Some x → (k : Given) × (o ≡ Some k)
led f x None e = absurd cc
led f x (Some k) e = (k, refl)

-- the first reply of lines
first_reply : (line : List ℕ) (lines : List (List ℕ)) (messages : List Message) → AllZip ReplyLine (line ∷ lines) messages
    → (message : Message) × (others : List Message) × (messages ≡ message ∷ others) × ReplyLine line message × AllZip ReplyLine lines others
first_reply line lines [] none = absurd none
first_reply line lines (message ∷ others) all = (message, others, refl, all.0, all.1)

replies_push : (lines : List (List ℕ)) (messages : List Message) (line : List ℕ) (message : Message) → AllZip ReplyLine lines messages
    → ReplyLine line message → AllZip ReplyLine (lines ++ line ∷ []) (messages ++ message ∷ [])
replies_push [] [] line message all reply = (reply, tt)
replies_push [] (m ∷ messages) line message none reply = absurd none
replies_push (l ∷ lines) [] line message none reply = absurd none
replies_push (l ∷ lines) (m ∷ messages) line message all reply = (all.0, replies_push lines messages line message all.1 reply)

no_reply : (messages : List Message) → AllZip ReplyLine [] messages → messages ≡ []
no_reply [] all = refl
no_reply (message ∷ others) none = absurd none

module _ (families : Families) (request : Request) where
  talk-push : (known : List Given) (messages : List Message) (known' : List Given) (message : Message) (more : Given)
      → talk_from families request known messages ≡ Some known'
      → told (goes families request known') message ≡ Some more
      → talk_from families request known (messages ++ message ∷ []) ≡ Some (known' ++ more ∷ [])
  talk-push known [] known' message more e t =
      let same : known ≡ known' = cc in
      let here : told (goes families request known) message ≡ Some more = rw same t in
      rw (here, same) refl
  talk-push known (m ∷ messages) known' message more e t =
      carried
      (λ (k : Given). talk_from families request (known ++ k ∷ []) messages)
      (λ (k : Given). talk_from families request (known ++ k ∷ []) (messages ++ message ∷ []))
      known' (known' ++ more ∷ []) (told (goes families request known) m)
      (λ k e'. talk-push (known ++ k ∷ []) messages known' message more e' t) e

  -- after so many lines this is known, and this is the resolution
  pub record Talking (lines : List (List ℕ)) (count : ℕ) (known : List Given) (resolution : Resolution) : Type 0 where
    pub is : resolution ≡ goes families request known
    pub messages : List Message
    pub replies : AllZip ReplyLine (take count lines) messages
    pub talked : talk families request messages ≡ Some known
    pub goes_on : (all : List Message) → AllZip ReplyLine lines all
        → (rest : List Message) × AllZip ReplyLine (drop count lines) rest × (talk_from families request known rest ≡ talk families request
        all)

  pub begun : (lines : List (List ℕ)) (resolution : Resolution) → resolution ≡ goes families request [] → Talking lines 0 [] resolution
  begun lines resolution e = record { is = e; messages = []; replies = tt; talked = refl; goes_on = λ all replies. (all, replies, refl) }

  module _ (lines : List (List ℕ)) (count : ℕ) (known : List Given) (resolution : Resolution) (so_far : Talking lines count known
      resolution) where
    module _ (line : List ℕ) (within : count < length lines) (is : line ≡ get_or lines count line) where
      rest-is : drop count lines ≡ line ∷ drop (count + 1) lines
      rest-is = drop_more lines count line within ∙ ap (λ (l : List ℕ). l ∷ drop (count + 1) lines) (sym is)

      front-is : take (count + 1) lines ≡ take count lines ++ line ∷ []
      front-is = take_more lines count line within ∙ ap (λ (l : List ℕ). take count lines ++ l ∷ []) (sym is)

      pub next : (message : Message) (more : Given) (resolution' : Resolution) → ReplyLine line message
          → told resolution message ≡ Some more
          → ((found : Message) → ReplyLine line found → told resolution found ≡ Some more)
          → resolution' ≡ goes families request (known ++ more ∷ [])
          → Talking lines (count + 1) (known ++ more ∷ []) resolution'
      next message more resolution' reply t each e = record {
        is = e;
        messages = so_far.messages ++ message ∷ [];
        replies = rw front-is (replies_push (take count lines) so_far.messages line message so_far.replies reply);
        talked = talk-push [] so_far.messages known message more so_far.talked (rw so_far.is at t);
        goes_on = λ all replies.
            let k = so_far.goes_on all replies in
            let f = first_reply line (drop (count + 1) lines) k.0 (rw rest-is at k.1) in
            let told-is : told (goes families request known) f.0 ≡ Some more = rw so_far.is at each f.0 f.3 in
            let one : talk_from families request (known ++ more ∷ []) f.1 ≡ talk_from families request known (f.0 ∷ f.1) =
            rw told-is refl in
            (f.1, f.4, one ∙ ap (talk_from families request known) (sym f.2) ∙ k.2);
      }

      -- where this line has a fault, the lines fail at it
      pub fails : (reply : BadReply) → IsFault reply resolution line → FailsAt families request lines reply
      fails reply fault = record {
        front = take count lines;
        line = line;
        back = drop (count + 1) lines;
        messages = so_far.messages;
        known = known;
        lines_are = sym (take-append-drop count lines) ∙ ap (λ (rest : List (List ℕ)). take count lines ++ rest) rest-is;
        replies = so_far.replies;
        talked = so_far.talked;
        fault = rw so_far.is at fault;
      }

      -- where all lines are replies, this one is
      pub has_reply : (all : List Message) (known' : List Given) → AllZip ReplyLine lines all → talk families request all ≡ Some known'
          → (message : Message) × (more : Given) × ReplyLine line message × (told resolution message ≡ Some more)
      has_reply all known' replies e =
          let k = so_far.goes_on all replies in
          let f = first_reply line (drop (count + 1) lines) k.0 (rw rest-is at k.1) in
          let whole : talk_from families request known (f.0 ∷ f.1) ≡ Some known' = ap (talk_from families request known) (sym f.2) ∙ k.2
          ∙ e in
          let more = led (λ (k : Given). talk_from families request (known ++ k ∷ []) f.1) known' (told (goes families request known) f.0)
          whole in
          (f.0, more.0, f.3, ap (λ (o : Resolution). told o f.0) so_far.is ∙ more.1)

    pub ends : count ≡ length lines → AllZip ReplyLine lines so_far.messages
    ends all = rw (take_all count lines (omega arith)) at so_far.replies

    pub all_known : count ≡ length lines → (all : List Message) (known' : List Given) → AllZip ReplyLine lines all
        → talk families request all ≡ Some known' → known ≡ known'
    all_known done all known' replies e =
        let k = so_far.goes_on all replies in
        let none = no_reply k.0 (rw (drop_all count lines (omega arith)) at k.1) in
        let is : talk_from families request known [] ≡ Some known' = ap (talk_from families request known) (sym none) ∙ k.2 ∙ e in
        cc
