use Rattle.std.proofs.Common.{◌∙◌, option_copied, sym}
use Rattle.cm_text.specs.Left.{left}
use Rattle.cm_shown.specs.Names.{name_of}
use Rattle.cm_shown.proofs.ShownWords.{turn_last, turn_more, words_end}
use Rattle.cm_shown.proofs.shown.put_words.Goals as goal
use Rattle.cm_shown.proofs.shown.put_words.Goals.{then-not-is_done+in_ok-push, else-not-is_done}

pub loop-word-preserved : goal.loop-word-preserved
loop-word-preserved c =
    let names = name_of c.args.names.now in
    let ws = left c.next_field.new.self in
    let name = option_copied c.name_behind.result in
    elim c.if-not-is_done.branch [
      | then-not-is_done+in_ok-push w ↦ rw (w.text-is, w.in_ok-push.ensures.items)
          (turn_more c.args.is_coloured names c.loop-word.before.now c.loop-word.leads c.in-Some.word.now ws _ c.loop-word.text.items c.put_word.new.text.items _
          c.colour_in-colour.result name c.leads_on-leads.result c.in-Some.ensures c.loop-word.invariant c.in_ok-put_word.ensures c.colour_in-colour.ensures c.name_behind.ensures
          c.leads_on-leads.ensures (sym c.is_done.ensures ∙ w.if-not-is_done.true))
      | else-not-is_done w ↦ rw w.text-is
          (turn_last c.args.is_coloured names c.loop-word.before.now c.loop-word.leads c.in-Some.word.now ws _ c.loop-word.text.items c.put_word.new.text.items _
          c.colour_in-colour.result name c.leads_on-leads.result c.in-Some.ensures c.loop-word.invariant c.in_ok-put_word.ensures c.colour_in-colour.ensures c.name_behind.ensures
          c.leads_on-leads.ensures (sym c.is_done.ensures ∙ w.if-not-is_done.false))
    ]

pub returns : goal.returns
returns c =
    words_end c.args.is_coloured (name_of c.args.names.now) c.loop-word.before.now c.loop-word.leads _ c.loop-word.text.items c.in_default.ensures.0 ∙ c.loop-word.invariant
