use Rattle.step_facts.proofs.Always.{by_types}
use Rattle.scribe_core.proofs.Overlay.{founder_is_ready, messages_hold}
use Rattle.scribe_core.proofs.Kept.{casts_follow_grafts, heard_once, members_hear, parents_are_nearer, refused_only_where, ways_up_end}
use Rattle.scribe_core.proofs.laws.groups_law.Goals as goal

pub returns-clause-members_hear : goal.returns-clause-members_hear
returns-clause-members_hear c =
    members_hear _ _ c.requires.setting (messages_hold _ _ (by_types c.requires.setting c.said_law.ensures c.requires.legal)) _ c.requires.groups

pub returns-clause-heard_once : goal.returns-clause-heard_once
returns-clause-heard_once c =
    heard_once _ _ c.requires.setting (messages_hold _ _ (by_types c.requires.setting c.said_law.ensures c.requires.legal)) _ c.requires.groups

pub returns-clause-parents_are_nearer : goal.returns-clause-parents_are_nearer
returns-clause-parents_are_nearer c =
    parents_are_nearer _ _ c.requires.setting (messages_hold _ _ (by_types c.requires.setting c.said_law.ensures c.requires.legal)) _ c.requires.groups

pub returns-clause-ways_up_end : goal.returns-clause-ways_up_end
returns-clause-ways_up_end c =
    ways_up_end _ _ c.requires.setting (messages_hold _ _ (by_types c.requires.setting c.said_law.ensures c.requires.legal)) _ c.requires.groups
    (founder_is_ready _ _ (by_types c.requires.setting c.said_law.ensures c.requires.legal))

pub returns-clause-casts_follow_grafts : goal.returns-clause-casts_follow_grafts
returns-clause-casts_follow_grafts c =
    casts_follow_grafts _ _ c.requires.setting (messages_hold _ _ (by_types c.requires.setting c.said_law.ensures c.requires.legal)) _ c.requires.groups

pub returns-clause-refused_only_where : goal.returns-clause-refused_only_where
returns-clause-refused_only_where c =
    refused_only_where _ _ c.requires.setting (messages_hold _ _ (by_types c.requires.setting c.said_law.ensures c.requires.legal)) _ c.requires.groups
