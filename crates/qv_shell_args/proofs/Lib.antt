mod Decimals
mod Matching
mod Answering
mod Calling
mod RequestExamples
mod PlainWords
