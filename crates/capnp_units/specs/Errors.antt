-- The kinds of refusals as the model's kinds.
use Rattle.capnp_model.specs.Kinds as model
use Rattle.capnp_units.specs.declared.kinds.ErrorKind.{ErrorKind}
use Rattle.capnp_units.specs.declared.kinds.ErrorKind.TheVariants.{OutOfBounds, MalformedFarPointer, WrongPointerKind, WrongElementSize, NestingLimitExceeded, ReadLimitExceeded, CapabilityInCanonical, TextWithoutZeroByte, UnknownPointerType, SizeOverflow, OutOfMemory, InvalidNumberOfSegments, FailedToFillTheWholeBuffer, PrematureEndOfPackedInput, PackedInputDidNotEndCleanlyOnASegmentBoundary, MessageTooLarge, BufferNotLargeEnough, PrematureEndOfFile, MessageEndsPrematurely, Device, FieldNotFound, TypeMismatch, FieldAndDefaultMismatch, NotAStruct, GroupFieldButTypeIsNotStruct, InitIsOnlyValidForStructAndAnyPointerFields, InitnIsOnlyValidForListTextOrDataFields, ExpectedAListOrBlob, ListAnyPointerNotSupported, ListCapabilityNotSupported, CannotSetAnyPointerFieldToAPrimitiveValue, SettingDynamicCapabilitiesIsUnsupported, InactiveMember, IndexOutOfRange, WrongStep, UnreadablePointer, ClearNeedsAField}

-- The model's kind of the same name.
abbrev pub kind_of : ErrorKind → model.Kind
kind_of OutOfBounds = model.OutOfBounds
kind_of MalformedFarPointer = model.MalformedFarPointer
kind_of WrongPointerKind = model.WrongPointerKind
kind_of WrongElementSize = model.WrongElementSize
kind_of NestingLimitExceeded = model.NestingLimitExceeded
kind_of ReadLimitExceeded = model.ReadLimitExceeded
kind_of CapabilityInCanonical = model.CapabilityInCanonical
kind_of TextWithoutZeroByte = model.TextWithoutZeroByte
kind_of UnknownPointerType = model.UnknownPointerType
kind_of SizeOverflow = model.SizeOverflow
kind_of OutOfMemory = model.OutOfMemory
kind_of InvalidNumberOfSegments = model.InvalidNumberOfSegments
kind_of FailedToFillTheWholeBuffer = model.FailedToFillTheWholeBuffer
kind_of PrematureEndOfPackedInput = model.PrematureEndOfPackedInput
kind_of PackedInputDidNotEndCleanlyOnASegmentBoundary = model.PackedInputDidNotEndCleanlyOnASegmentBoundary
kind_of MessageTooLarge = model.MessageTooLarge
kind_of BufferNotLargeEnough = model.BufferNotLargeEnough
kind_of PrematureEndOfFile = model.PrematureEndOfFile
kind_of MessageEndsPrematurely = model.MessageEndsPrematurely
kind_of Device = model.Device
kind_of FieldNotFound = model.FieldNotFound
kind_of TypeMismatch = model.TypeMismatch
kind_of FieldAndDefaultMismatch = model.FieldAndDefaultMismatch
kind_of NotAStruct = model.NotAStruct
kind_of GroupFieldButTypeIsNotStruct = model.GroupFieldButTypeIsNotStruct
kind_of InitIsOnlyValidForStructAndAnyPointerFields = model.InitIsOnlyValidForStructAndAnyPointerFields
kind_of InitnIsOnlyValidForListTextOrDataFields = model.InitnIsOnlyValidForListTextOrDataFields
kind_of ExpectedAListOrBlob = model.ExpectedAListOrBlob
kind_of ListAnyPointerNotSupported = model.ListAnyPointerNotSupported
kind_of ListCapabilityNotSupported = model.ListCapabilityNotSupported
kind_of CannotSetAnyPointerFieldToAPrimitiveValue = model.CannotSetAnyPointerFieldToAPrimitiveValue
kind_of SettingDynamicCapabilitiesIsUnsupported = model.SettingDynamicCapabilitiesIsUnsupported
kind_of InactiveMember = model.InactiveMember
kind_of IndexOutOfRange = model.IndexOutOfRange
kind_of WrongStep = model.WrongStep
kind_of UnreadablePointer = model.UnreadablePointer
kind_of ClearNeedsAField = model.ClearNeedsAField
