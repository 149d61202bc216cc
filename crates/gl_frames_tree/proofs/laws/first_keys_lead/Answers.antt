use Rattle.gl_frames_tree.proofs.LaneLemmas.{first_is, kept_is}
use Rattle.gl_frames_tree.proofs.LeadLemmas.{lead_children}
use Rattle.gl_frames_tree.proofs.laws.first_keys_lead.Goals as goal

pub returns-clause-lead : goal.returns-clause-lead
returns-clause-lead c = lead_children

pub returns-clause-kept : goal.returns-clause-kept
returns-clause-kept c = kept_is

pub returns-clause-first : goal.returns-clause-first
returns-clause-first c = first_is
