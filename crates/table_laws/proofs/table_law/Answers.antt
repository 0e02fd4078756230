use Rattle.step_facts.proofs.Always.{by_types}
use Rattle.table_laws.proofs.Stores.{owner_holds, held_is_accepted, noted_once}
use Rattle.table_laws.proofs.Rightness.{notes_are_right}
use Rattle.table_laws.proofs.Later.{stored_stays, gone_is_reclaimed, reclaimed_is_last}
use Rattle.table_laws.proofs.table_law.Goals as goal

pub returns-clause-notes_are_right : goal.returns-clause-notes_are_right
returns-clause-notes_are_right c = notes_are_right _ _ (by_types c.requires.setting c.said_law.ensures c.requires.legal)

pub returns-clause-owner_holds : goal.returns-clause-owner_holds
returns-clause-owner_holds c = owner_holds _ _ (by_types c.requires.setting c.said_law.ensures c.requires.legal)

pub returns-clause-held_is_accepted : goal.returns-clause-held_is_accepted
returns-clause-held_is_accepted c = held_is_accepted _ _ (by_types c.requires.setting c.said_law.ensures c.requires.legal)

pub returns-clause-noted_once : goal.returns-clause-noted_once
returns-clause-noted_once c = noted_once _ _ (by_types c.requires.setting c.said_law.ensures c.requires.legal)

pub returns-clause-stored_stays : goal.returns-clause-stored_stays
returns-clause-stored_stays c = stored_stays _ _ (by_types c.requires.setting c.said_law.ensures c.requires.legal)

pub returns-clause-gone_is_reclaimed : goal.returns-clause-gone_is_reclaimed
returns-clause-gone_is_reclaimed c = gone_is_reclaimed _ _ (by_types c.requires.setting c.said_law.ensures c.requires.legal)

pub returns-clause-reclaimed_is_last : goal.returns-clause-reclaimed_is_last
returns-clause-reclaimed_is_last c = reclaimed_is_last _ _ (by_types c.requires.setting c.said_law.ensures c.requires.legal)
