use Rattle.std.proofs.Common.{refl, inl, inr, ◌∙◌}
use Rattle.follow.specs.declared.status.Refusal.TheVariants as refusal
use Rattle.follow.proofs.Refused.{put_whole}
use Rattle.follow.proofs.top.refuse.Goals as goal

pub returns-in-Ok-clause-line : goal.returns-in-Ok-clause-line
returns-in-Ok-clause-line g c = (
  c.args.why.now,
  c.status.ensures,
  inl refl,
  put_whole (g.K.Sink.held c.args.out.now) (g.K.Sink.held c.put.new.self) (g.K.Sink.faults c.args.out.now) (g.K.Sink.faults c.put.new.self) _ _ _
      (c.as_bytes.ensures.value ∙ c.in-Ok.ensures) c.put.ensures.bytes c.put.ensures.cause,
)

pub returns-in-Err-clause-line : goal.returns-in-Err-clause-line
returns-in-Err-clause-line g c = (
  refusal.Memory,
  refl,
  inr refl,
  put_whole (g.K.Sink.held c.args.out.now) (g.K.Sink.held c.put-in-Err.new.self) (g.K.Sink.faults c.args.out.now) (g.K.Sink.faults c.put-in-Err.new.self) _ _ _
      c.as_bytes-in-Err.ensures.value c.put-in-Err.ensures.bytes c.put-in-Err.ensures.cause,
)
