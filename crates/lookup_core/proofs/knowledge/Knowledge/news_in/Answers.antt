use Rattle.std.proofs.Common.{◌≡◌, [], ◌∷◌, false, refl, sym, ◌∙◌, subst}
use Rattle.lookup_core.specs.Kept.{Kept, news_of}
use Rattle.lookup_core.specs.declared.knowledge.News.TheVariants.{Nothing, Entry}
use Rattle.route_table.specs.declared.Standing.TheVariants as standing
use Rattle.lookup_core.proofs.Told.{LeafsStay, TableStays, one-news, entry-stays, leaf-stays}
use Rattle.lookup_core.proofs.knowledge.Knowledge.news_in.Goals as goal

pub returns-in-Entry-clause-leafs : goal.returns-in-Entry-clause-leafs
returns-in-Entry-clause-leafs c = λ _.
    subst (λ (k : Kept). LeafsStay k c.args.id) c.self.view_is
    (entry-stays (record { leafs = c.self.inside.leafs; table = c.self.inside.table }) c.args.id (c.in-Entry.ensures.learnt refl))

pub returns-in-Free : goal.returns-in-Free
returns-in-Free c =
    let inside : Kept = record { leafs = c.self.inside.leafs; table = c.self.inside.table } in
    record {
      news = subst (λ (k : Kept). Entry ≡ news_of k (c.args.id ∷ [])) c.self.view_is
          (one-news inside c.args.id standing.Free false c.in-Free.ensures.standing (sym c.if-lacks.false ∙ c.lacks.ensures));
      leafs = λ _. subst (λ (k : Kept). LeafsStay k c.args.id) c.self.view_is (leaf-stays inside c.args.id (sym c.lacks.ensures ∙ c.if-lacks.false));
      table = λ never. cc;
    }

pub returns-in-Elsewhere : goal.returns-in-Elsewhere
returns-in-Elsewhere c =
    let inside : Kept = record { leafs = c.self.inside.leafs; table = c.self.inside.table } in
    record {
      news = subst (λ (k : Kept). Nothing ≡ news_of k (c.args.id ∷ [])) c.self.view_is
          (one-news inside c.args.id standing.Elsewhere false c.in-Elsewhere.ensures.standing (sym c.if-lacks.false ∙ c.lacks.ensures));
      leafs = λ _. subst (λ (k : Kept). LeafsStay k c.args.id) c.self.view_is (leaf-stays inside c.args.id (sym c.lacks.ensures ∙ c.if-lacks.false));
      table = λ _. subst (λ (k : Kept). TableStays k c.args.id) c.self.view_is (c.in-Elsewhere.ensures.same (λ never. cc));
    }
