use Rattle.std.proofs.Common.{◌≡◌, ◌+◌, ◌∷◌, [], Bor, List, inl, map, ap, arith, refl, sym, subst, ◌∙◌}
use Rattle.std.specs.List.{All, list_any}
use Rattle.std.proofs.lemmas.List.{map-append}
use Rattle.std.proofs.lemmas.List.Elements.{All-nil, All-push}
use Rattle.answer_log.specs.Groups.{hash_of, hashed_of}
use Rattle.answer_log.specs.Handles.{spent_of}
use Rattle.answer_log.specs.Cursors.{Ahead}
use Rattle.answer_log.specs.declared.store.Store.{Store}
use Rattle.answer_cache.specs.Carried.{has_question}
use Rattle.answer_cache.specs.Nodes.{offer_of_node, store_in}
use Rattle.answer_cache.specs.Seats.{Offer}
use Rattle.answer_cache.specs.declared.node.Node.{Node}
use Rattle.answer_cache.proofs.Costing as costs
use Rattle.answer_cache.proofs.Gathering.{Gathers, asks, gathered, gathers-met, gathers-new, gathers-none, on-err, runs-out, some-left, was-met}
use Rattle.answer_cache.proofs.shared_cache.SharedCache.last_nodes.Goals as goal
use Rattle.answer_cache.proofs.shared_cache.SharedCache.last_nodes.Goals.{then-not-is_among+in_ok-push, else-not-is_among}

abbrev said : Bor Node → Offer
said node = offer_of_node node.now

abbrev Tagged : List (Bor Node) → Type 0
Tagged nodes = All (λ node. node.now.tag ≡ hash_of (hashed_of node.now.question)) nodes

pub links-init : goal.links-init
links-init c = record {
  books = c.requires.books;
  same = record { handle = c.requires.handle; number = refl; seats = refl; groups = refl; node_count = refl; book = refl };
  tagged = subst Tagged (sym c.new-nodes.ensures.items) (All-nil (λ node. node.now.tag ≡ hash_of (hashed_of node.now.question)));
  gathers = λ whole ahead.
      let G : List (Bor Node) → Type 0 = λ nodes. Gathers whole c.args.cursor.now 0 (map said nodes) in
      subst G (sym c.new-nodes.ensures.items) (gathers-none whole c.args.cursor.now ahead);
  costs = costs.free (spent_of c.args.handle.now);
}

pub step-requires-clause-ahead : goal.step-requires-clause-ahead
step-requires-clause-ahead c =
    let it = c.links.invariant.gathers c.requires.ahead.0 c.requires.ahead.1 in (it.left, it.ahead)

pub is_among-requires-clause-nodes : goal.is_among-requires-clause-nodes
is_among-requires-clause-nodes c = subst Tagged (sym c.deref.ensures.value) c.links.invariant.tagged

pub returns-in_default-clause-last : goal.returns-in_default-clause-last
returns-in_default-clause-last c left ahead few =
    let it = c.links.invariant.gathers left ahead in
    let met = rw c.in_default.is at c.in_ok-node.ensures.met in
    gathered left c.links.cursor c.links._link (map said c.links.nodes.items) it (met it.left it.ahead)

pub returns-in_err-push-clause-wanted : goal.returns-in_err-push-clause-wanted
returns-in_err-push-clause-wanted c =
    let met = rw c.in-Some.is at c.in_ok-node.ensures.met in
    on-err c.from_residual-in_err-push.result _ (inl (λ whole ahead.
    let it = c.links.invariant.gathers whole ahead in
    let here = met it.left it.ahead in
    some-left whole c.links.cursor c.links._link (map said c.links.nodes.items) it here.0 (store_in here.1 c.in-Some.node.now) here.2))

pub links-preserved : goal.links-preserved
links-preserved c =
    let i = c.links.invariant in
    let node = c.in-Some.node in
    let items = c.links.nodes.items in
    let its = c.in_ok-node.ensures in
    let met = rw c.in-Some.is at its.met in
    let tagged = rw c.in-Some.is at its.tagged in
    let same = costs.same-handle c.args.handle.now c.links.handle c.step.new.handle i.same its.same in
    let spent = costs.both _ (spent_of c.links.handle) _ c.links._link 1 0 0 i.costs its.costs in
    let had : (whole : List Store) (ahead : Ahead c.args.cursor.now whole)
    → c.is_among.result ≡ has_question node.now.question (i.gathers whole ahead).done =
    (λ whole ahead. c.is_among.ensures
    ∙ (ap (list_any (λ it. asks node.now.question (said it))) c.deref.ensures.value
    ∙ was-met c.law_same_questions_are_equal.ensures said items (i.gathers whole ahead).done node.now.question (i.gathers whole ahead).met))
    in
    elim c.if-not-is_among.branch [
      | then-not-is_among+in_ok-push w ↦
          (let grown = ap (λ v. v.items) w.nodes-is ∙ w.in_ok-push.ensures.items in record {
            books = (its.book, ap (λ b. b.book) its.same.book ∙ i.books.1);
            same = same;
            tagged = subst Tagged (sym grown)
                (All-push (λ it. it.now.tag ≡ hash_of (hashed_of it.now.question)) items node i.tagged tagged);
            gathers = λ whole ahead.
                let it = i.gathers whole ahead in
                let here = met it.left it.ahead in
                let G : List Offer → Type 0 = λ offers. Gathers whole c.step.new.cursor (c.links._link + 1) offers in
                subst G (sym (ap (map said) grown ∙ map-append said items (node ∷ [])))
                (gathers-new whole c.links.cursor c.links._link (map said items) it here.0 (store_in here.1 node.now) c.step.new.cursor
                here.2 here.3 (sym (had whole ahead) ∙ w.if-not-is_among.true));
            costs = spent;
          })
      | else-not-is_among w ↦
          (let stays = ap (λ v. v.items) w.nodes-is in record {
            books = (its.book, ap (λ b. b.book) its.same.book ∙ i.books.1);
            same = same;
            tagged = subst Tagged (sym stays) i.tagged;
            gathers = λ whole ahead.
                let it = i.gathers whole ahead in
                let here = met it.left it.ahead in
                let G : List (Bor Node) → Type 0 = λ nodes. Gathers whole c.step.new.cursor (c.links._link + 1) (map said nodes) in
                subst G (sym stays)
                (gathers-met whole c.links.cursor c.links._link (map said items) it here.0 (store_in here.1 node.now) c.step.new.cursor
                here.2 here.3 (sym (had whole ahead) ∙ w.if-not-is_among.false));
            costs = spent;
          })
    ]

pub returns-clause-last : goal.returns-clause-last
returns-clause-last c left ahead few =
    let it = c.links.invariant.gathers left ahead in
    let past = c.links-test.false in
    gathered left c.links.cursor c.links._link (map said c.links.nodes.items) it
    (runs-out left c.links.cursor c.links._link (map said c.links.nodes.items) it (omega arith))
