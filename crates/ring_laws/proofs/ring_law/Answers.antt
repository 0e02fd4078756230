use Rattle.step_facts.proofs.Always.{by_types}
use Rattle.ring_laws.proofs.Owner.{one_owner, closest_owns}
use Rattle.ring_laws.proofs.Hops.{hops_go_nearer}
use Rattle.ring_laws.proofs.Notes.{lookups_are_right, hops_are_few, closings_are_right}
use Rattle.ring_laws.proofs.Once.{closed_once}
use Rattle.ring_laws.proofs.ring_law.Goals as goal

pub returns-clause-one_covers : goal.returns-clause-one_covers
returns-clause-one_covers c = one_owner _ _ (by_types c.requires.setting c.said_law.ensures c.requires.legal)

pub returns-clause-closest_covers : goal.returns-clause-closest_covers
returns-clause-closest_covers c = closest_owns _ _ (by_types c.requires.setting c.said_law.ensures c.requires.legal)

pub returns-clause-hops_go_nearer : goal.returns-clause-hops_go_nearer
returns-clause-hops_go_nearer c = hops_go_nearer _ _ (by_types c.requires.setting c.said_law.ensures c.requires.legal)

pub returns-clause-lookups_are_right : goal.returns-clause-lookups_are_right
returns-clause-lookups_are_right c = lookups_are_right _ _ (by_types c.requires.setting c.said_law.ensures c.requires.legal)

pub returns-clause-closings_are_right : goal.returns-clause-closings_are_right
returns-clause-closings_are_right c = closings_are_right _ _ (by_types c.requires.setting c.said_law.ensures c.requires.legal)

pub returns-clause-hops_are_few : goal.returns-clause-hops_are_few
returns-clause-hops_are_few c = hops_are_few _ _ (by_types c.requires.setting c.said_law.ensures c.requires.legal)

pub returns-clause-closed_once : goal.returns-clause-closed_once
returns-clause-closed_once c = closed_once _ _ (by_types c.requires.setting c.said_law.ensures c.requires.legal)
