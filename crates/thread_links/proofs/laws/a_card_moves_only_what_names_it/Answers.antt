use Rattle.thread_links.proofs.StayLaws.{earlier_stay, parent_stays, parent_in_chat, chat_stays}
use Rattle.thread_links.proofs.laws.a_card_moves_only_what_names_it.Goals as goal

pub returns-clause-earlier : goal.returns-clause-earlier
returns-clause-earlier c = earlier_stay

pub returns-clause-parent : goal.returns-clause-parent
returns-clause-parent c = parent_stays

pub returns-clause-of_parent : goal.returns-clause-of_parent
returns-clause-of_parent c = parent_in_chat

pub returns-clause-chat : goal.returns-clause-chat
returns-clause-chat c = chat_stays
