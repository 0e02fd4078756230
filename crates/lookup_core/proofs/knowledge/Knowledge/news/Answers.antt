use Rattle.std.proofs.Common.{◌≡◌, ◌≢◌, ℕ, List, take_all, subst, if◌then◌else◌, take, refl, sym, ap, ◌∙◌}
use Rattle.std.specs.List.{list_any}
use Rattle.route_table.specs.Entries.{is_new}
use Rattle.leaf_set.specs.Leaves.{StandsFor as LeafSetStandsFor}
use Rattle.route_table.specs.Entries.{StandsFor as TableStandsFor}
use Rattle.lookup_core.specs.Kept.{StandsFor, is_new_leaf}
use Rattle.lookup_core.proofs.Learning.{learn_all-next}
use Rattle.ring_math.specs.Sides.{learn_all}
use Rattle.lookup_core.specs.declared.knowledge.News.TheVariants.{Nothing, Entry, Leaf}
use Rattle.lookup_core.proofs.Told.{new-leaf, new-entry, no-news, any-more, leaf-told, entry-kept, entry-told}
use Rattle.lookup_core.proofs.knowledge.Knowledge.news.Goals as goal
use Rattle.lookup_core.proofs.knowledge.Knowledge.news.Goals.{in-Entry, in-Nothing}

pub returns-in-Leaf : goal.returns-in-Leaf
returns-in-Leaf c = record {
  news = leaf-told c.args.self.now c.args.ids.now c.loop-id.id-index c.id-item.result c.loop-id-test.true c.id-item.is
      (new-leaf c.args.self.now c.id-item.result (sym c.in-Leaf.is ∙ c.news_in.ensures.news));
  leafs = λ never. absurd (never refl);
  same = λ never. cc;
}

pub loop-id-preserved : goal.loop-id-preserved
loop-id-preserved c =
    let k = c.args.self.now in
    let ids = c.args.ids.now in
    let i = c.loop-id.id-index in
    let y = c.id-item.result in
    let leafs = λ (other : c.news_in.result ≢ Leaf) (known : List ℕ) (st : StandsFor k known).
    subst (LeafSetStandsFor k.leafs) (learn_all-next k.leafs.me known ids i y c.loop-id-test.true c.id-item.is)
    (c.news_in.ensures.leafs other known (take i ids) st (c.loop-id.invariant.leafs known st)) in
    let seen = list_any (is_new k.table) (take i ids) in
    elim c.match-news_in.branch [
      | in-Entry w ↦
          let one = new-entry k y (sym w.in-Entry.is ∙ c.news_in.ensures.news) in
          record {
            leaves = any-more (is_new_leaf k) ids i y _ _ c.loop-id-test.true c.id-item.is c.loop-id.invariant.leaves one.leaf;
            leafs = leafs (λ leaf. let never : Entry ≡ Leaf = sym w.in-Entry.is ∙ leaf in cc);
            table = λ none. let never : Entry ≡ Nothing = sym w.news-is ∙ none in cc;
            entries = w.news-is ∙ entry-told seen
                ∙ sym (ap (λ b. if b then Entry else Nothing) (any-more (is_new k.table) ids i y seen _ c.loop-id-test.true c.id-item.is refl one.entry));
          }
      | in-Nothing w ↦
          let one = no-news k y (sym w.in-Nothing.is ∙ c.news_in.ensures.news) in
          record {
            leaves = any-more (is_new_leaf k) ids i y _ _ c.loop-id-test.true c.id-item.is c.loop-id.invariant.leaves one.leaf;
            leafs = leafs (λ leaf. let never : Nothing ≡ Leaf = sym w.in-Nothing.is ∙ leaf in cc);
            table = λ none known st.
                subst (TableStandsFor k.table) (learn_all-next k.table.me known ids i y c.loop-id-test.true c.id-item.is)
                (c.news_in.ensures.table w.in-Nothing.is _ (c.loop-id.invariant.table (sym w.news-is ∙ none) known st));
            entries = entry-kept seen c.match-news_in.news (w.news-is ∙ c.loop-id.invariant.entries)
                ∙ sym (ap (λ b. if b then Entry else Nothing) (any-more (is_new k.table) ids i y seen _ c.loop-id-test.true c.id-item.is refl one.entry));
          }
    ]

pub returns-clause-same : goal.returns-clause-same
returns-clause-same c = λ none known st.
    let k = c.args.self.now in
    let all = take_all c.loop-id.id-index c.args.ids.now c.loop-id-test.false in
    record {
      me = st.me;
      leafs = subst (λ (ids : List ℕ). LeafSetStandsFor k.leafs (learn_all k.leafs.me known ids)) all (c.loop-id.invariant.leafs known st);
      table = subst (λ m. TableStandsFor k.table (learn_all m known c.args.ids.now)) st.me
          (subst (λ (ids : List ℕ). TableStandsFor k.table (learn_all k.table.me known ids)) all (c.loop-id.invariant.table none known st.table));
    }
