use Rattle.std.proofs.Common.{rules, List, sym, ap, ◌∙◌}
use Rattle.std.proofs.lemmas.List.{places, with_items_is}
use Rattle.overlay_rules.specs.Record.{sent_in, visit}
use Rattle.world_model.specs.Recorded.{Recorded}
use Rattle.fetch_cache.specs.Going.{made_of}
use Rattle.fetch_cache.specs.Points.{Point}
use Rattle.fetch_cache.specs.Turns.{told_at}
use Rattle.fetch_cache.proofs.Taking.{made_told}
use Rattle.fetch_cache.proofs.player.PointPlayer.make.Goals as goal

pub returns-in_ok-tell_last-in_default : goal.returns-in_ok-tell_last-in_default
returns-in_ok-tell_last-in_default c = record {
  answer = sym c.if-not-branch.false ∙ c.in_ok-make.ensures.answer;
  made = λ step is.
      ap (λ (points : List Point). record {
        progress = c.make.new.self;
        points = points;
        hits = c.self.inside.hits;
        fetches = c.self.inside.fetches.items;
      }) (with_items_is c.self.inside.points c.tell_last.new.points (search (rules, places))) ∙
      made_told c.args.actions.now c.args.turn step
      (record { progress = c.self.inside.player; points = c.self.inside.points.items; hits = c.self.inside.hits; fetches = c.self.inside.fetches.items })
      c.make.new.self c.entries-entries.result.now c.tell_last.new.points is c.in_default.not-Skip
      (sym c.in_ok-make.ensures.answer ∙ c.if-not-branch.false) (c.in_ok-make.ensures.made step is)
      (c.entries-entries.ensures.value ∙ ap (λ (r : Recorded). r.entries) c.world.ensures)
      (λ before e whole. c.in_ok-tell_last-in_default.ensures before e whole ∙
      ap (λ fs. told_at fs (visit (sent_in before) e.event) e.notes c.deref_mut.result.now) c.deref.ensures.value ∙
      ap (λ (points : List Point). told_at c.self.inside.fetches.items (visit (sent_in before) e.event) e.notes points) c.deref_mut.ensures.value) ∙
      ap (made_of step) c.self.view_is;
}
