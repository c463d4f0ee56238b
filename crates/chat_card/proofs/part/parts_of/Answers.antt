use Rattle.std.proofs.Common.{length}
use Rattle.std.specs.Prelude.{Some}
use Rattle.std.proofs.lemmas.List.Elements.{All-pop}
use Rattle.mime_parts.specs.Trees.{IsNodeWithin}
use Rattle.transfer_code.specs.Encodings.{decode_body}
use Rattle.chat_card.proofs.PartLemmas.{part-popped}
use Rattle.chat_card.proofs.part.parts_of.Goals as goal

pub loop-node-preserved : goal.loop-node-preserved
loop-node-preserved c = record {
  within = (All-pop (IsNodeWithin (length c.args.body.now)) c.loop-node.nodes.items c.pop.new.self.items (Some c.in-Some.node) c.in-Some.ensures.items c.loop-node.invariant.within).0;
  parts = part-popped c.args.body.now (decode_body c.in-Some.node.encoding c.encoded_in-encoded.result.now) c.pop.new.self.items c.loop-node.nodes.items c.in-Some.node c.loop-node.found.items c.push.new.self.items _
      c.encoded_in-encoded.ensures c.in-Some.ensures.items c.in_ok-push.ensures.items c.loop-node.invariant.parts;
}
